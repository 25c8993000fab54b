-- What a test decides, as a fact, in both directions: of numbers, of tests put together, and of a choice by a test. Assumes nothing.
use mathlib.Core.Bool.{Bool, true, false, cond, not, and-eq-true_iff, or-eq-true_iff, false≢true, ◌&&◌, ◌||◌}
use mathlib.Core.Logic.Iff
use mathlib.Core.Logic.{◌↔◌, ◌∨₁◌}
use mathlib.Core.Path.{◌≡◌, refl, sym}
use Prim.Native.Nat.{ℕ, ◌<◌, ◌≤◌}
use lib.Dec.{eqb, leb, ltb}
use borrow.Author.Tests.{eq-eqb, eqb-true, le-leb, leb-true, lt-ltb, ltb-true, not-true}

module _ (a b : ℕ) where
  pub below : ltb a b ≡ true ↔ a < b
  below = (ltb-true a b, lt-ltb a b)

  pub at_most : leb a b ≡ true ↔ a ≤ b
  at_most = (leb-true a b, le-leb a b)

  pub equal : eqb a b ≡ true ↔ a ≡ b
  equal = (eqb-true a b, eq-eqb a b)

pub holds_not : (b : Bool) → not b ≡ true ↔ b ≡ false
holds_not b = (not-true b, λ f. rw f)

pub fails_exactly : {P : Type 0} (b : Bool) → b ≡ true ↔ P → b ≡ false ↔ ¬ P
fails_exactly true p = (λ f. absurd (false≢true (sym f)), λ n. absurd (n (p.0 refl)))
fails_exactly false p = (λ _ h. false≢true (p.1 h), λ _. refl)

-- two tests of one fact
pub same_test : {P : Type 0} (a b : Bool) → a ≡ true ↔ P → b ≡ true ↔ P → a ≡ b
same_test true b p q = sym (q.1 (p.0 refl))
same_test false b p q = sym ((fails_exactly b q).1 ((fails_exactly false p).0 refl))

module _ {P Q : Type 0} (a b : Bool) (p : a ≡ true ↔ P) (q : b ≡ true ↔ Q) where
  pub both : (a && b) ≡ true ↔ P × Q
  both = Iff.trans (and-eq-true_iff a b) (Iff.and p q)

  pub one : (a || b) ≡ true ↔ P ∨₁ Q
  one = Iff.trans (or-eq-true_iff a b) (Iff.or p q)

pub chosen : {A P : Type 0} (b : Bool) (x y : A) → b ≡ true ↔ P → (P → cond b x y ≡ x) × (¬ P → cond b x y ≡ y)
chosen true x y p = (λ _. refl, λ n. absurd (n (p.0 refl)))
chosen false x y p = (λ h. absurd (false≢true (p.1 h)), λ _. refl)
