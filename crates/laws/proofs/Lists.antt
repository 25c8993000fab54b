-- Laws of the lists of `specs/Lists.antt`. Assumes nothing.
use mathlib.Core.Bool.{Bool, true, false, cond, not, ◌||◌, false≢true, or_assoc}
use mathlib.Core.List.{List, Memᴰ, [], ◌∷◌, ◌++◌, append-nil, reverse, reverse-cons}
use mathlib.Core.Path.{◌≡◌, refl, sym, ap, subst, ◌∙◌}
use Prim.Native.Nat.{ℕ, zero, suc, ◌≤◌, ◌<◌}
use native.Mathlib.Omega.{arith}
use lib.ListN.{drop, length, take, take-append-drop}
use Rattle.laws.specs.Lists.{Each, EachTwo, any, filter}
use Rattle.laws.specs.Lists.Each.{none, more}
use Rattle.laws.specs.Lists.EachTwo.{no_two, more_two}
use Rattle.laws.proofs.Choices.{either, neither}

module _ {A : Type 0} where
  -- those that do not pass the test
  abbrev pub others : (A → Bool) → List A → List A
  others p l = filter (λ x. not (p x)) l

  pub each_map : {P Q : A → Type 0} {l : List A} → ((x : A) → P x → Q x) → Each P l → Each Q l
  each_map f none = none
  each_map f (more {x} h e) = more (f x h) (each_map f e)

  -- what holds of each holds of one that stands there
  pub each_in : {P : A → Type 0} {l : List A} {x : A} → Each P l → Memᴰ x l → P x
  each_in none there = elim there [ ]
  each_in {P} (more h e) (Memᴰ.head same) = subst P (sym same) h
  each_in (more h e) (Memᴰ.tail there) = each_in e there

  pub each_both : {P Q : A → Type 0} {l : List A} → Each P l → Each Q l → Each (λ x. P x × Q x) l
  each_both none none = none
  each_both (more h e) (more g d) = more (h, g) (each_both e d)

  -- what holds of each two, by what holds of each
  pub two_map : {P : A → Type 0} {R S : A → A → Type 0} {l : List A}
      → ((x y : A) → P x → P y → R x y → S x y) → Each P l → EachTwo R l → EachTwo S l
  two_map f none no_two = no_two
  two_map f (more {x} h e) (more_two g d) =
      more_two (each_map (λ y b. f x y h b.0 b.1) (each_both e g)) (two_map f e d)

-- those that pass the test p
module _ {A : Type 0} (p : A → Bool) where
  pub length_filter : (l : List A) → length (filter p l) ≤ length l
  length_filter [] = omega arith
  length_filter (x ∷ xs) =
      let fewer = length_filter xs in
      either (λ l. length l ≤ length (x ∷ xs)) (p x) _ _ (λ _. omega arith) (λ _. omega arith)

  pub each_filter : {P : A → Type 0} {l : List A} → Each P l → Each P (filter p l)
  each_filter none = none
  each_filter {P} (more {x} h e) = either (Each P) (p x) _ _ (λ _. more h (each_filter e)) (λ _. each_filter e)

  pub two_filter : {R : A → A → Type 0} {l : List A} → EachTwo R l → EachTwo R (filter p l)
  two_filter no_two = no_two
  two_filter {R} (more_two {x} h e) = either (EachTwo R) (p x) _ _ (λ _. more_two (each_filter h) (two_filter e)) (λ _. two_filter e)

  pub each_passes : (l : List A) → Each (λ x. p x ≡ true) (filter p l)
  each_passes [] = none
  each_passes (x ∷ xs) = either (Each (λ y. p y ≡ true)) (p x) _ _ (λ t. more t (each_passes xs)) (λ _. each_passes xs)

-- those that pass the test p, beside the others
module _ {A : Type 0} (p : A → Bool) where
  -- one that passes is not among the others
  pub fewer_others : (l : List A) → any p l ≡ true → length (others p l) < length l
  fewer_others [] t = absurd (false≢true t)
  fewer_others (x ∷ xs) t = pick (p x) t (fewer_others xs)
    where
      pick : (b : Bool) → b || any p xs ≡ true → (any p xs ≡ true → length (others p xs) < length xs)
          → length (cond (not b) (x ∷ others p xs) (others p xs)) < length (x ∷ xs)
      pick true s f = omega (arith, length_filter (λ y. not (p y)) xs)
      pick false s f = omega (arith, f s)

  -- a relation that goes both ways and holds of each two holds between the ones and the others
  pub across : {R : A → A → Type 0} {l : List A} → ((x y : A) → R x y → R y x) → EachTwo R l
      → Each (λ s. Each (λ r. R r s) (filter p l)) (others p l)
  across turn no_two = none
  across {R} turn (more_two {x} {xs} h e) = pick (p x) (across turn e)
    where
      pick : (t : Bool) → Each (λ s. Each (λ r. R r s) (filter p xs)) (others p xs)
          → Each (λ s. Each (λ r. R r s) (cond t (x ∷ filter p xs) (filter p xs))) (cond (not t) (x ∷ others p xs) (others p xs))
      pick true d = each_map (λ s b. more b.0 b.1) (each_both (each_filter (λ y. not (p y)) h) d)
      pick false d = more (each_map (λ r. turn x r) (each_filter p h)) d

-- a test that none passes
module _ {A : Type 0} (p : A → Bool) where
  pub none_passes : (l : List A) → any p l ≡ false → Each (λ x. p x ≡ false) l
  none_passes [] t = none
  none_passes (x ∷ xs) t =
      let tests = neither (p x) (any p xs) t in
      more tests.0 (none_passes xs tests.1)

  pub filter_none : {l : List A} → Each (λ x. p x ≡ false) l → filter p l ≡ []
  filter_none none = refl
  filter_none (more h e) = rw h (filter_none e)

  pub filter_others : {l : List A} → Each (λ x. p x ≡ false) l → others p l ≡ l
  filter_others none = refl
  filter_others (more {x} h e) = rw h (ap (λ l. x ∷ l) (filter_others e))

-- what holds of each element of two lists, and of the first n and the rest
module _ {A : Type 0} {P : A → Type 0} where
  pub each_append : {l m : List A} → Each P l → Each P m → Each P (l ++ m)
  each_append none d = d
  each_append (more h e) d = more h (each_append e d)

  pub each_take : (n : ℕ) {l : List A} → Each P l → Each P (take n l)
  each_take zero e = none
  each_take (suc n) none = none
  each_take (suc n) (more h e) = more h (each_take n e)

  pub each_drop : (n : ℕ) {l : List A} → Each P l → Each P (drop n l)
  each_drop zero e = e
  each_drop (suc n) none = none
  each_drop (suc n) (more h e) = each_drop n e

-- those that pass the test p, in two lists, in the first n and the rest, and in the order reversed
module _ {A : Type 0} (p : A → Bool) where
  pub filter_append : (l m : List A) → filter p (l ++ m) ≡ filter p l ++ filter p m
  filter_append [] m = refl
  filter_append (x ∷ l) m = pick (p x) (filter_append l m)
    where
      pick : (b : Bool) → filter p (l ++ m) ≡ filter p l ++ filter p m
          → cond b (x ∷ filter p (l ++ m)) (filter p (l ++ m)) ≡ cond b (x ∷ filter p l) (filter p l) ++ filter p m
      pick true e = ap (λ k. x ∷ k) e
      pick false e = e

  pub filter_split : (n : ℕ) (l : List A) → filter p l ≡ filter p (take n l) ++ filter p (drop n l)
  filter_split n l = ap (filter p) (sym (take-append-drop n l)) ∙ filter_append (take n l) (drop n l)

  pub filter_reverse : (l : List A) → filter p (reverse l) ≡ reverse (filter p l)
  filter_reverse [] = refl
  filter_reverse (x ∷ l) =
      ap (filter p) (reverse-cons x l) ∙ filter_append (reverse l) (x ∷ []) ∙ ap (λ k. k ++ filter p (x ∷ [])) (filter_reverse l) ∙ pick (p x)
    where
      pick : (b : Bool) → reverse (filter p l) ++ cond b (x ∷ []) [] ≡ reverse (cond b (x ∷ filter p l) (filter p l))
      pick true = sym (reverse-cons x (filter p l))
      pick false = append-nil (reverse (filter p l))

  pub any_append : (l m : List A) → any p (l ++ m) ≡ any p l || any p m
  any_append [] m = refl
  any_append (x ∷ l) m = ap (λ b. p x || b) (any_append l m) ∙ sym (or_assoc (p x) (any p l) (any p m))
