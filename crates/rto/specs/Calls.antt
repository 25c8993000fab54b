-- The calls that move a timer, and the timer after a list of them.
use Rattle.std.specs.Prelude.{ℕ, List, [], ◌∷◌}
use Rattle.std.proofs.Math.Option.{get_or}
use Rattle.rto.specs.declared.Timer.{Timer}
use Rattle.rto.specs.Timer.{answered, expired}

-- a round-trip sample R in ms with its N, or an expiry
pub data Call : Type 0 where
  sample : ℕ → ℕ → Call
  expiry : Call

-- a refused sample leaves the timer as it was
abbrev pub called : Timer → Call → Timer
called t (sample r n) = get_or (answered t r n).timer t
called t expiry = expired t

-- each call gets the timer as the last left it
abbrev pub run : Timer → List Call → Timer
run t [] = t
run t (c ∷ cs) = run (called t c) cs
