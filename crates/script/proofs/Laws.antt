-- The body of an opening's call, laid out octet by octet as docs/REPLAY.md has it, is read as what was laid out. Assumes nothing.
use mathlib.Core.Bool.{Bool, true, false, cond}
use mathlib.Core.List.{List, ◌∷◌, ◌++◌}
use mathlib.Core.Path.{◌≡◌, refl, ap, ◌∙◌}
use Prim.Native.Nat.{ℕ, ◌+◌, ◌*◌, ◌/◌, ◌%◌, ◌≤◌}
use native.Mathlib.Omega.{arith}
use lib.Dec.{eqb}
use borrow.Author.Tests.{eq-eqb, ne_eqb}
use Rattle.std.specs.Prelude.{Option, None, Some, is_some}
use Rattle.octets.specs.Octets.{big_endian, number_at}
use Rattle.octets.proofs.ReadBack.{number_at_big_endian}
use Rattle.offers.specs.declared.Offers.{Offers}
use Rattle.connection.specs.declared.Setup.{Setup}
use Rattle.script.specs.Setup.{offers_in, scale_in, setup_in}

abbrev bit : Bool → ℕ
bit b = cond b 1 0

-- shift (1); where none is offered, it holds anything
abbrev pub shift_octet : Option ℕ → ℕ → ℕ
shift_octet None anything = anything
shift_octet (Some shift) anything = shift

-- offers (1: bit 0 timestamps, bit 1 SACK, bit 2 window scale), whatever the bits above
abbrev pub offers_octet : Offers → ℕ → ℕ
offers_octet o above = bit o.timestamps + 2 * bit o.sack + 4 * bit (is_some o.scale) + 8 * above

is_set : (b : Bool) (n : ℕ) → n ≡ bit b → eqb n 1 ≡ b
is_set true n e = eq-eqb n 1 e
is_set false n e = ne_eqb n 1 (λ h. omega arith)

bit_most : (b : Bool) → bit b ≤ 1
bit_most true = omega arith
bit_most false = omega arith

scale_read : (scale : Option ℕ) (anything : ℕ) → scale_in (shift_octet scale anything) (is_some scale) ≡ scale
scale_read None anything = refl
scale_read (Some shift) anything = refl

-- without bit 2 the shift octet offers nothing, whatever it holds
pub offers_read : (o : Offers) (anything above : ℕ) → offers_in (shift_octet o.scale anything) (offers_octet o above) ≡ o
offers_read o anything above =
    let shift = shift_octet o.scale anything in
    let bits = offers_octet o above in
    let t = bit_most o.timestamps in
    let s = bit_most o.sack in
    let w = bit_most (is_some o.scale) in
    let timestamps : (offers_in shift bits).timestamps ≡ o.timestamps = is_set o.timestamps (bits % 2) (omega arith) in
    let sack : (offers_in shift bits).sack ≡ o.sack = is_set o.sack (bits / 2 % 2) (omega arith) in
    let scale : (offers_in shift bits).scale ≡ o.scale =
    ap (scale_in shift) (is_set (is_some o.scale) (bits / 4 % 2) (omega arith)) ∙ scale_read o.scale anything in
    λ i. record { scale = scale i; timestamps = timestamps i; sack = sack i }

-- ISS (4), shift (1), offers (1), first receive window (4), offset of our timestamps (4); what follows is not looked at
abbrev pub body_of : Setup → ℕ → ℕ → List ℕ → List ℕ
body_of own anything above rest =
    big_endian 4 own.iss.0
    ++ (shift_octet own.offers.scale anything ∷ offers_octet own.offers above ∷ (big_endian 4 own.window ++ (big_endian 4 own.offset ++ rest)))

pub setup_read : (own : Setup) (anything above : ℕ) (rest : List ℕ) → setup_in (body_of own anything above rest) ≡ own
unfolding setup_in number_at big_endian
setup_read own anything above rest =
    let body = body_of own anything above rest in
    let iss : (setup_in body).iss.0 ≡ own.iss.0 = number_at_big_endian 3 own.iss.0 rest in
    let offers : (setup_in body).offers ≡ own.offers = offers_read own.offers anything above in
    let window : (setup_in body).window ≡ own.window = number_at_big_endian 3 own.window rest in
    let offset : (setup_in body).offset ≡ own.offset = number_at_big_endian 3 own.offset rest in
    λ i. record { iss = record { 0 = iss i }; offers = offers i; window = window i; offset = offset i }
