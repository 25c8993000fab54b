-- The offset o(x) is the one number below 2^32 that leads from the base to x. Assumes nothing.
use Rattle.std.proofs.Common.{◌≡◌, ℕ, ◌+◌, ◌-◌, ◌%◌, ◌^◌, ◌<◌, ◌≤◌, sym, ap, ◌∙◌, arith}
use Rattle.serial.specs.Serial.{moved_by, offset_of}

pub offset_below : (base x : ℕ) → offset_of base x < 2 ^ 32
unfolding offset_of
offset_below base x = omega arith

pub moved_offset : (base x : ℕ) → moved_by base (offset_of base x) ≡ x % 2 ^ 32
unfolding offset_of
moved_offset base x = omega arith

pub offset_only : (base x o : ℕ) → o < 2 ^ 32 → moved_by base o ≡ x % 2 ^ 32 → o ≡ offset_of base x
unfolding offset_of
offset_only base x o small leads = omega arith

-- a number moved on by o lies o past the old one
pub offset_moved : (base o : ℕ) → o < 2 ^ 32 → offset_of base (moved_by base o) ≡ o
unfolding offset_of
offset_moved base o small = omega arith

-- seen from a base that is moved on by n, what lies n past it or more is n nearer
pub offset_from_moved : (base n x : ℕ) → n ≤ offset_of base x → offset_of (moved_by base n) x ≡ offset_of base x - n
offset_from_moved base n x past =
    sym (offset_only (moved_by base n) x (offset_of base x - n) (omega (arith, offset_below base x)) (omega (arith, moved_offset base x)))

-- both moved on by n, they lie as far apart as before
pub offset_both_moved : (base x n : ℕ) → offset_of (moved_by base n) (moved_by x n) ≡ offset_of base x
offset_both_moved base x n =
    sym (offset_only (moved_by base n) (moved_by x n) (offset_of base x) (offset_below base x) (omega (arith, moved_offset base x)))

remainder_moved : (x n : ℕ) → moved_by (x % 2 ^ 32) n ≡ moved_by x n % 2 ^ 32
remainder_moved x n = omega arith

moved_twice : (base m n : ℕ) → moved_by base (moved_by m n) ≡ moved_by (moved_by base m) n
moved_twice base m n = omega arith

-- seen from a number a, by where both lie as seen from the base
module _ (base a x : ℕ) where
  -- from the base to a, and from there to x
  pub offset_sum : moved_by (offset_of base a) (offset_of a x) ≡ offset_of base x
  offset_sum =
      offset_only base x _ (omega arith)
      (moved_twice base (offset_of base a) (offset_of a x)
      ∙ (ap (λ y. moved_by y (offset_of a x)) (moved_offset base a)
      ∙ (remainder_moved a (offset_of a x) ∙ omega (arith, moved_offset a x))))

  pub offset_between : offset_of base a ≤ offset_of base x → offset_of a x ≡ offset_of base x - offset_of base a
  offset_between order = omega (arith, offset_sum, offset_below base a, offset_below a x)

  pub offset_around : offset_of base x < offset_of base a → offset_of a x ≡ offset_of base x + 2 ^ 32 - offset_of base a
  offset_around order = omega (arith, offset_sum, offset_below base a, offset_below a x)

-- a number lies 0 past itself, and from one to another and back again is a whole round
pub offset_self : (a : ℕ) → offset_of a a ≡ 0
unfolding offset_of
offset_self a = omega arith

pub offset_back : (a b : ℕ) → moved_by (offset_of a b) (offset_of b a) ≡ 0
offset_back a b = offset_sum a b a ∙ offset_self a

-- a number that is moved on by n lies n farther, modulo 2^32
pub offset_of_moved : (base x n : ℕ) → offset_of base (moved_by x n) ≡ moved_by (offset_of base x) n
offset_of_moved base x n =
    sym (offset_only base (moved_by x n) (moved_by (offset_of base x) n) (omega arith)
    (moved_twice base (offset_of base x) n ∙ (ap (λ y. moved_by y n) (moved_offset base x) ∙ remainder_moved x n)))
