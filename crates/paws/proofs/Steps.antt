-- A list of steps, then another, and `connection`'s lists of calls. Assumes nothing.
use mathlib.Core.List.{List, [], ◌∷◌, ◌++◌, map}
use mathlib.Core.Path.{◌≡◌, refl}
use Rattle.connection.specs.Calls.{run}
use Rattle.paws.specs.History.{Sent}
use Rattle.paws.specs.Runs.{Run, Step, Throughout, after, call_of, ran}

module _ {history : List Sent} where
  -- the record of a run is that of the calls
  pub runs_calls : (steps : List (Step history)) (r : Run) → (ran r steps).now ≡ run r.now (map call_of steps)
  runs_calls [] r = refl
  runs_calls (s ∷ ss) r = runs_calls ss (after r s)

  module _ (P : Run → Step history → Type 0) where
    pub then : (xs ys : List (Step history)) (r : Run) → Throughout P r xs → Throughout P (ran r xs) ys → Throughout P r (xs ++ ys)
    then [] ys r first second = second
    then (x ∷ xs) ys r first second = (first.0, then xs ys (after r x) first.1 second)

    pub later : (xs ys : List (Step history)) (r : Run) → Throughout P r (xs ++ ys) → Throughout P (ran r xs) ys
    later [] ys r all = all
    later (x ∷ xs) ys r all = later xs ys (after r x) all.1
