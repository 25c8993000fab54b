-- Lists by a test, what holds of each element, or of each two, and the largest of a list of numbers.
use Rattle.std.specs.Prelude.{Bool, true, false, cond, ◌||◌, List, [], ◌∷◌, ◌≡◌, ℕ, ◌≤◌, eqb}

module _ {A : Type 0} where
  -- those that pass the test, in their order
  abbrev pub filter : (A → Bool) → List A → List A
  filter p [] = []
  filter p (x ∷ xs) = cond (p x) (x ∷ filter p xs) (filter p xs)

  -- whether one passes the test
  abbrev pub any : (A → Bool) → List A → Bool
  any p [] = false
  any p (x ∷ xs) = p x || any p xs

-- P holds of each element
pub data Each {A : Type 0} (P : A → Type 0) : List A → Type 0 where
  none : Each P []
  more : {x : A} {xs : List A} → P x → Each P xs → Each P (x ∷ xs)

-- R holds of each element and each that follows it
pub data EachTwo {A : Type 0} (R : A → A → Type 0) : List A → Type 0 where
  no_two : EachTwo R []
  more_two : {x : A} {xs : List A} → Each (R x) xs → EachTwo R xs → EachTwo R (x ∷ xs)

-- n stands in the list, and no number in it is above n
pub record IsLargest (n : ℕ) (l : List ℕ) : Type 0 where
  pub stands_there : any (eqb n) l ≡ true
  pub none_above : Each (λ m. m ≤ n) l
