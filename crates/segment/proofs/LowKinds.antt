-- Kinds 0 and 1 in a list of kinds match nothing: the list without them finds the same. Assumes nothing.
use mathlib.Core.Bool.{Bool, true, false, cond}
use mathlib.Core.List.{List, [], ◌∷◌}
use mathlib.Core.Path.{◌≡◌, refl, ap, ◌∙◌}
use Prim.Native.Nat.{ℕ}
use native.Mathlib.Omega.{arith}
use lib.Dec.{eqb, ltb}
use borrow.Author.Tests.{ltb-true}
use Rattle.segment.specs.Options.{nothing, option_in}
use Rattle.segment.specs.Reading.{found_option, matching, reading, steps_of}
use Rattle.segment.proofs.Membership.{below_out}

-- the kinds of a list but 0 and 1
pub from_two : List ℕ → List ℕ
from_two [] = []
from_two (kind ∷ kinds) = cond (ltb kind 2) (from_two kinds) (kind ∷ from_two kinds)

same_kinds : (kinds : List ℕ) → matching kinds ≡ matching (from_two kinds)
unfolding from_two
same_kinds [] = refl
same_kinds (x ∷ kinds) = go (ltb x 2) refl (same_kinds kinds)
  where
    go : (t : Bool) → ltb x 2 ≡ t → matching kinds ≡ matching (from_two kinds)
        → matching (x ∷ kinds) ≡ matching (cond t (from_two kinds) (x ∷ from_two kinds))
    go true e rest = below_out _ x kinds (omega (arith, ltb-true x 2 e)) ∙ rest
    go false e rest = rw rest

pub low_kinds_match_nothing : (s kinds : List ℕ) → found_option s kinds ≡ found_option s (from_two kinds)
unfolding found_option
low_kinds_match_nothing s kinds = ap (λ (l : List ℕ). cond (eqb (reading s).number 0) (option_in l (steps_of s)) nothing) (same_kinds kinds)
