-- Of the ranges passed so far those that the part does not meet. Assumes nothing.
use Rattle.std.proofs.Common.{◌≡◌, take}
use Rattle.receive.specs.Ranges.{held_of, unmet}
use Rattle.receive.proofs.Receive.unmet.Given as goal

abbrev pub invariant-loop-range : goal.invariant-loop-range
invariant-loop-range l = l.rest ≡ held_of (unmet l.self.nxt.0 l.part (take l.range-index l.range-items))
