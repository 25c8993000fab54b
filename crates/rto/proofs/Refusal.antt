-- A sample that E14 refuses is refused by its number alone, and leaves the timer; any other moves it. Assumes nothing.
use Prim.Native.Nat.{ℕ, ◌≤◌}
use mathlib.Core.Bool.{Bool, true, false, cond}
use mathlib.Core.Logic.{◌↔◌}
use mathlib.Core.Option.{none, some, get_or}
use mathlib.Core.Path.{◌≡◌, refl, ap}
use Rattle.laws.proofs.Tests.{at_most, both}
use Rattle.rto.specs.declared.Timer.{Timer}
use Rattle.rto.specs.Timer.{Answer, answered, is_accepted, sampled_by}
use Rattle.rto.specs.Calls.{called, sample}
use Rattle.rto.specs.Exact.{within_limits}

module _ (r n : ℕ) where
  -- the timer and the exact value leave out the same samples
  pub tests_agree : is_accepted r n ≡ within_limits r n
  tests_agree = refl

  -- R is at most 600,000, and N is not outside 1 to 16
  pub accepted_exactly : is_accepted r n ≡ true ↔ (r ≤ 600000) × ((1 ≤ n) × (n ≤ 16))
  accepted_exactly = both _ _ (at_most r 600000) (both _ _ (at_most 1 n) (at_most n 16))

module _ (t : Timer) (r n : ℕ) where
  -- the answer by the test, and the timer that an answer leaves
  abbrev given : Bool → Answer
  given accepted = cond accepted (record { number = 0; timer = some (sampled_by t r n) }) (record { number = 14; timer = none })

  abbrev left : Answer → Timer
  left a = get_or a.timer t

  pub refused_alone : is_accepted r n ≡ false → answered t r n ≡ record { number = 14; timer = none }
  refused_alone refused = ap given refused

  pub refusal_leaves : is_accepted r n ≡ false → called t (sample r n) ≡ t
  refusal_leaves refused = ap left (refused_alone refused)

  pub accepted_answer : is_accepted r n ≡ true → answered t r n ≡ record { number = 0; timer = some (sampled_by t r n) }
  accepted_answer accepted = ap given accepted

  pub accepted_moves : is_accepted r n ≡ true → called t (sample r n) ≡ sampled_by t r n
  accepted_moves accepted = ap left (accepted_answer accepted)
