-- Demand 3, as one claim over every list of calls from a new timer (document 02, P4).
use Rattle.std.specs.Prelude.{ℕ, true, false, List, [], ◌∷◌, ◌++◌, ◌≡◌}
use Rattle.rto.specs.Timer.{new_timer}
use Rattle.rto.specs.Calls.{Call, sample, expiry, run}
use Rattle.rto.specs.Fractions.{AtMost, Below, divided, sum, whole}
use Rattle.rto.specs.Exact.{Exact, unset, set, exact_run, exact_value, within_limits}

-- samples that E14 refuses, and nothing else
abbrev pub RefusedSamples : List Call → Type 0
RefusedSamples [] = Unit
RefusedSamples (sample r n ∷ cs) = (within_limits r n ≡ false) × RefusedSamples cs
RefusedSamples (expiry ∷ cs) = ⊥

-- Some sample was not refused, and no expiry came after the last such sample: what came after it are refused samples alone.
pub record NoExpirySinceSample (calls : List Call) : Type 0 where
  pub before : List Call
  pub rtt : ℕ
  pub expected : ℕ
  pub after : List Call
  pub split : calls ≡ before ++ (sample rtt expected ∷ after)
  pub not_refused : within_limits rtt expected ≡ true
  pub last : RefusedSamples after

-- no earlier than the exact value, and later than it by less than 1650/256 ms
abbrev pub OnTime : ℕ → Exact → Type 0
OnTime ms unset = ⊥
OnTime ms (set s v) = AtMost (exact_value s v) (whole ms) × Below (whole ms) (sum (exact_value s v) (divided (whole 1650) 256))

unfoldable pub Demand3 : Type 0
Demand3 = (calls : List Call) → NoExpirySinceSample calls → OnTime (run new_timer calls).timeout (exact_run unset calls)
