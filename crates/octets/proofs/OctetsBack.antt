-- The converse of read-back: a number that was read is written as the octets that it was read from. Assumes nothing.
use mathlib.Core.Bool.{Bool, true, false}
use mathlib.Core.List.{List, [], ◌∷◌}
use mathlib.Core.Path.{◌≡◌, refl, sym, ap, ◌∙◌}
use Prim.Native.Nat.{ℕ, zero, suc, ◌+◌, ◌*◌, ◌/◌, ◌%◌, ◌^◌, ◌≤◌, ◌<◌}
use native.Mathlib.Nat.{div-eq_of_lt, div-lt_iff_lt-mul, mod-eq_of_lt, mod-lt, mul-add-div_right, mul-add-mod_self_right, mul-le-mul_right}
use native.Mathlib.Omega.{arith}
use lib.Dec.{ltb}
use lib.ListN.{drop, get_or, length, length-take, take, get_or-eq_default}
use lib.Seq.{drop-cons, get_or-drop, get_or-take}
use borrow.Author.Tests.{ltb-false, ltb-true}
use Rattle.octets.specs.Octets.{Octets, big_endian, number_at}

power_pos : (w : ℕ) → 0 < 256 ^ w
power_pos zero = omega arith
power_pos (suc w) = omega (arith, power_pos w)

-- Lists of octets.
pub octets_none : Octets []
octets_none = record { each = λ i. omega arith }

pub octets_more : {a : ℕ} {l : List ℕ} → a < 256 → Octets l → Octets (a ∷ l)
octets_more {a} {l} h octets = record { each = go }
  where
    go : (i : ℕ) → get_or (a ∷ l) i 0 < 256
    go zero = h
    go (suc i) = octets.each i

pub octets_take : (n : ℕ) {l : List ℕ} → Octets l → Octets (take n l)
octets_take n {l} octets = record { each = λ i. pick i (ltb i n) refl }
  where
    pick : (i : ℕ) (t : Bool) → ltb i n ≡ t → get_or (take n l) i 0 < 256
    pick i true e = rw (get_or-take n l i 0 (ltb-true i n e)) (octets.each i)
    pick i false e =
        let past : length (take n l) ≤ i = omega (arith, length-take n l, ltb-false i n e) in
        rw (get_or-eq_default (take n l) 0 past) (omega arith)

pub octets_drop : (n : ℕ) {l : List ℕ} → Octets l → Octets (drop n l)
octets_drop n {l} octets = record { each = λ i. rw (get_or-drop n l i 0) (octets.each (n + i)) }

-- what is written of a number below 256 ^ w are octets
pub octets_written : (w n : ℕ) → n < 256 ^ w → Octets (big_endian w n)
unfolding big_endian
octets_written zero n h = octets_none
octets_written (suc w) n h =
    octets_more ((div-lt_iff_lt-mul (power_pos w)).1 (omega (arith, h))) (octets_written w (n % 256 ^ w) (mod-lt n (power_pos w)))

module _ {l : List ℕ} (octets : Octets l) where
  -- what is read of w octets is below 256 ^ w
  pub number_below : (w at : ℕ) → number_at w l at < 256 ^ w
  unfolding number_at
  number_below zero at = omega arith
  number_below (suc w) at =
      omega (arith, number_below w (suc at), mul-le-mul_right (256 ^ w) (octets.each at))

  pub octets_back : (w at : ℕ) → at + w ≤ length l → big_endian w (number_at w l at) ≡ take w (drop at l)
  unfolding big_endian number_at
  octets_back zero at room = refl
  octets_back (suc w) at room =
      let a : ℕ = get_or l at 0 in
      let rest : ℕ = number_at w l (suc at) in
      let below : rest < 256 ^ w = number_below w (suc at) in
      let high : (a * 256 ^ w + rest) / 256 ^ w ≡ a = mul-add-div_right (power_pos w) a rest ∙ omega (arith, div-eq_of_lt below) in
      let low : (a * 256 ^ w + rest) % 256 ^ w ≡ rest = mul-add-mod_self_right a (256 ^ w) rest ∙ mod-eq_of_lt below in
      (λ i. high i ∷ big_endian w (low i)) ∙ ap (λ (k : List ℕ). a ∷ k) (octets_back w (suc at) (omega arith))
      ∙ ap (take (suc w)) (sym (drop-cons l at 0 (omega arith)))
