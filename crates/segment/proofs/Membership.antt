-- Whether a number stands in a list, and in those of a list that pass a test. Assumes nothing.
use mathlib.Core.Bool.{Bool, true, false, cond, ◌||◌, true≢false}
use mathlib.Core.List.Memᴰ
use mathlib.Core.List.{List, [], ◌∷◌, Memᴰ}
use mathlib.Core.Logic.{◌⊎◌, inl, inr}
use mathlib.Core.Path.{◌≡◌, refl, sym, ap, subst, ◌∙◌}
use Prim.Native.Nat.{ℕ, ◌≤◌, ◌<◌}
use lib.Dec.{eqb, leb}
use Rattle.std.specs.List.{list_any}
use borrow.Author.Tests.{eq-eqb, eqb-false, eqb-true, le-leb, lt-leb, ne_eqb}
use Rattle.laws.specs.Lists.{Each, filter}
use Rattle.laws.specs.Lists.Each.{none, more}
use Rattle.segment.specs.Options.{stands_in}

eqb_comm : (a b : ℕ) → eqb a b ≡ eqb b a
eqb_comm a b = go (eqb a b) refl
  where
    go : (t : Bool) → eqb a b ≡ t → t ≡ eqb b a
    go true e = sym (eq-eqb b a (sym (eqb-true a b e)))
    go false e = sym (ne_eqb b a (λ same. eqb-false a b e (sym same)))

pub stands_if : (n : ℕ) (l : List ℕ) → Memᴰ n l → stands_in n l ≡ true
unfolding stands_in
stands_if n [] m = absurd (Memᴰ.not-nil m)
stands_if n (x ∷ xs) m = go (Memᴰ.cases_cons m) (eqb n x) refl (stands_if n xs)
  where
    go : (n ≡ x) ⊎ Memᴰ n xs → (t : Bool) → eqb n x ≡ t → (Memᴰ n xs → stands_in n xs ≡ true) → (t || stands_in n xs) ≡ true
    go c true e rest = refl
    go (inl same) false e rest = absurd (true≢false (sym (eq-eqb n x same) ∙ e))
    go (inr m) false e rest = rest m

-- what a slice's `contains` says
pub any_stands : (n : ℕ) (l : List ℕ) → list_any (λ x. eqb x n) l ≡ stands_in n l
unfolding stands_in
any_stands n [] = refl
any_stands n (x ∷ xs) = λ i. eqb_comm x n i || any_stands n xs i

pub stands_only : (n : ℕ) (l : List ℕ) → stands_in n l ≡ true → Memᴰ n l
unfolding stands_in
stands_only n [] e = absurd (true≢false (sym e))
stands_only n (x ∷ xs) e = go (eqb n x) refl e (stands_only n xs)
  where
    go : (t : Bool) → eqb n x ≡ t → (t || stands_in n xs) ≡ true → (stands_in n xs ≡ true → Memᴰ n xs) → Memᴰ n (x ∷ xs)
    go true same e rest = Memᴰ.head (eqb-true n x same)
    go false same e rest = Memᴰ.tail (rest e)

pub stands_not : (n : ℕ) (l : List ℕ) → (Memᴰ n l → ⊥) → stands_in n l ≡ false
stands_not n l absent = go (stands_in n l) refl
  where
    go : (t : Bool) → stands_in n l ≡ t → stands_in n l ≡ false
    go true e = absurd (absent (stands_only n l e))
    go false e = e

-- those that pass the test p
module _ (p : ℕ → Bool) (n : ℕ) where
  pub stands_passed : (l : List ℕ) → p n ≡ true → stands_in n (filter p l) ≡ stands_in n l
  unfolding stands_in
  stands_passed [] h = refl
  stands_passed (x ∷ xs) h = go (p x) refl (stands_passed xs h)
    where
      go : (t : Bool) → p x ≡ t → stands_in n (filter p xs) ≡ stands_in n xs
          → stands_in n (cond t (x ∷ filter p xs) (filter p xs)) ≡ (eqb n x || stands_in n xs)
      go true e rest = ap (λ (t : Bool). eqb n x || t) rest
      go false e rest = simp (ne_eqb n x (λ same. true≢false (sym h ∙ ap p same ∙ e))) rest

  pub stands_failed : (l : List ℕ) → p n ≡ false → stands_in n (filter p l) ≡ false
  unfolding stands_in
  stands_failed [] h = refl
  stands_failed (x ∷ xs) h = go (p x) refl (stands_failed xs h)
    where
      go : (t : Bool) → p x ≡ t → stands_in n (filter p xs) ≡ false → stands_in n (cond t (x ∷ filter p xs) (filter p xs)) ≡ false
      go true e rest = simp (ne_eqb n x (λ same. true≢false (sym e ∙ ap p (sym same) ∙ h))) rest
      go false e rest = rest

  -- one of those that pass is one of all
  pub stands_all : (l : List ℕ) → stands_in n (filter p l) ≡ true → stands_in n l ≡ true
  stands_all l e = go (p n) refl
    where
      go : (t : Bool) → p n ≡ t → stands_in n l ≡ true
      go true h = sym (stands_passed l h) ∙ e
      go false h = absurd (true≢false (sym e ∙ stands_failed l h))

-- those from a least one on
pub stands_from : (least n : ℕ) (l : List ℕ) → least ≤ n → stands_in n (filter (leb least) l) ≡ stands_in n l
stands_from least n l h = stands_passed (leb least) n l (le-leb least n h)

pub below_out : (least n : ℕ) (l : List ℕ) → n < least → filter (leb least) (n ∷ l) ≡ filter (leb least) l
below_out least n l h = simp (lt-leb least n h)

pub of_each : {A : Type 0} {P : A → Type 0} {l : List A} {n : A} → Each P l → Memᴰ n l → P n
of_each none m = absurd (Memᴰ.not-nil m)
of_each {A} {P} {l} {n} (more {x} {xs} h e) m = go (Memᴰ.cases_cons m) (λ later. of_each e later)
  where
    go : (n ≡ x) ⊎ Memᴰ n xs → (Memᴰ n xs → P n) → P n
    go (inl same) rest = subst P (sym same) h
    go (inr later) rest = rest later
