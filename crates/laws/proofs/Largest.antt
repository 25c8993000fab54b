-- The largest of a list of numbers. Assumes nothing.
use mathlib.Core.Bool.{true, false≢true}
use mathlib.Core.List.{List, [], ◌∷◌}
use mathlib.Core.Logic.{◌⊎◌, inl, inr}
use mathlib.Core.Path.{◌≡◌, refl}
use Prim.Native.Nat.{ℕ, max, ◌<◌, ◌≤◌}
use native.Mathlib.Decide.{dec_lt}
use native.Mathlib.Omega.{arith}
use lib.Dec.{eqb}
use borrow.Author.Tests.{eq-eqb, eqb-true}
use Rattle.laws.specs.Lists.{Each, IsLargest, any}
use Rattle.laws.specs.Lists.Each.{none, more}
use Rattle.laws.proofs.Choices.{either_true, or_left, or_right}

pub largest_one : (n : ℕ) → IsLargest n (n ∷ [])
largest_one n = record { stands_there = or_left (eqb n n) _ (eq-eqb n n refl); none_above = more {x = n} (omega arith) none }

-- a list has one largest number
at_most_largest : (m n : ℕ) {l : List ℕ} → any (eqb m) l ≡ true → Each (λ x. x ≤ n) l → m ≤ n
at_most_largest m n stands none = absurd (false≢true stands)
at_most_largest m n stands (more {x} {xs} first later) =
    pick (either_true (eqb m x) (any (eqb m) xs) stands) (λ stands_later. at_most_largest m n stands_later later)
  where
    pick : (eqb m x ≡ true) ⊎ (any (eqb m) xs ≡ true) → (any (eqb m) xs ≡ true → m ≤ n) → m ≤ n
    pick (inl is) further = omega (arith, eqb-true m x is, first)
    pick (inr stands_later) further = further stands_later

pub largest_only : (m n : ℕ) (l : List ℕ) → IsLargest m l → IsLargest n l → m ≡ n
largest_only m n l g h =
    omega (arith, at_most_largest m n g.stands_there h.none_above, at_most_largest n m h.stands_there g.none_above)

-- two numbers in place of the larger of them
pub largest_two : (n a b : ℕ) (l : List ℕ) → IsLargest n (max a b ∷ l) → IsLargest n (a ∷ b ∷ l)
largest_two n a b l h = record {
  stands_there = stands (either_true (eqb n (max a b)) (any (eqb n) l) h.stands_there) (dec_lt a b);
  none_above = most h.none_above;
}
  where
    stands : (eqb n (max a b) ≡ true) ⊎ (any (eqb n) l ≡ true) → Dec (a < b) → any (eqb n) (a ∷ b ∷ l) ≡ true
    stands (inl is) (yes less) = or_right (eqb n a) _ (or_left (eqb n b) _ (eq-eqb n b (omega (arith, eqb-true n (max a b) is))))
    stands (inl is) (no greater) = or_left (eqb n a) _ (eq-eqb n a (omega (arith, eqb-true n (max a b) is)))
    stands (inr later) d = or_right (eqb n a) _ (or_right (eqb n b) _ later)

    most : Each (λ m. m ≤ n) (max a b ∷ l) → Each (λ m. m ≤ n) (a ∷ b ∷ l)
    most (more first later) = more {x = a} (omega (arith, first)) (more {x = b} (omega (arith, first)) later)
