-- The flags of an octet, by the weight of each. Assumes nothing.
use mathlib.Core.Bool.{Bool, true, false, cond}
use mathlib.Core.List.{List, [], ◌∷◌}
use mathlib.Core.Path.{◌≡◌}
use Prim.Native.Nat.{ℕ, zero, suc, ◌+◌, ◌*◌, ◌/◌, ◌%◌, ◌^◌}
use native.Mathlib.Numerals.{one-add}
use native.Mathlib.Omega.{arith}
use lib.ListN.{get_or}
use lib.Pow.{shr_le, shr-shr}
use Rattle.segment.specs.Reading.{bit, flags_of}
use Rattle.segment.specs.declared.Flags.{Flags}

-- the number of these bits, the lowest first
abbrev from_bits : List Bool → ℕ
from_bits [] = 0
from_bits (b ∷ bs) = cond b 1 0 + 2 * from_bits bs

lowest : (b : Bool) (n : ℕ) → bit 0 (cond b 1 0 + 2 * n) ≡ b
lowest true n =
    let odd : (1 + 2 * n) / 2 ^ 0 % 2 ≡ 1 = omega arith in
    rw odd
lowest false n =
    let even : (0 + 2 * n) / 2 ^ 0 % 2 ≡ 0 = omega arith in
    rw even

halved : (b : Bool) (n : ℕ) → (cond b 1 0 + 2 * n) / 2 ^ 1 ≡ n
halved true n = omega arith
halved false n = omega arith

-- one law over the place
bit_back : (n : ℕ) (bs : List Bool) → bit n (from_bits bs) ≡ get_or bs n false
bit_back n [] =
    let none : 0 / 2 ^ n ≡ 0 = omega (arith, shr_le 0 n) in
    rw none
bit_back zero (b ∷ bs) = lowest b (from_bits bs)
bit_back (suc n) (b ∷ bs) =
    let higher : from_bits (b ∷ bs) / 2 ^ suc n ≡ from_bits bs / 2 ^ n =
    rw (← one-add n, ← shr-shr (from_bits (b ∷ bs)) 1 n, halved b (from_bits bs)) in
    rw higher (bit_back n bs)

-- a flag of weight n
weighs : (flag : Bool) (n : ℕ) → cond flag n 0 ≡ n * cond flag 1 0
weighs true n = omega arith
weighs false n = omega arith

-- octet 13, from bit 7: CWR ECE URG ACK PSH RST SYN FIN
abbrev pub octet_of : Flags → ℕ
octet_of f =
    cond f.cwr 128 0 + cond f.ece 64 0 + cond f.urg 32 0 + cond f.ack 16 0
    + cond f.psh 8 0 + cond f.rst 4 0 + cond f.syn 2 0 + cond f.fin 1 0

pub flags_read : (f : Flags) → flags_of (octet_of f) ≡ f
flags_read f =
    let bits : List Bool = f.fin ∷ f.syn ∷ f.rst ∷ f.psh ∷ f.ack ∷ f.urg ∷ f.ece ∷ f.cwr ∷ [] in
    let octet : octet_of f ≡ from_bits bits = omega (
      arith,
      weighs f.cwr 128,
      weighs f.ece 64,
      weighs f.urg 32,
      weighs f.ack 16,
      weighs f.psh 8,
      weighs f.rst 4,
      weighs f.syn 2,
    ) in
    rw octet (λ i. record {
      cwr = bit_back 7 bits i;
      ece = bit_back 6 bits i;
      urg = bit_back 5 bits i;
      ack = bit_back 4 bits i;
      psh = bit_back 3 bits i;
      rst = bit_back 2 bits i;
      syn = bit_back 1 bits i;
      fin = bit_back 0 bits i;
    })
