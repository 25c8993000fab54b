-- The loop goes from the oldest range to the newest: what those passed so far give. Assumes nothing.
use Rattle.std.proofs.Common.{◌≡◌, map, reverse}
use Rattle.receive.specs.Ranges.{joined}
use Rattle.receive.proofs.Receive.joined.Given as goal

abbrev pub invariant-loop-range : goal.invariant-loop-range
invariant-loop-range l = l.joined ≡ joined l.self.nxt.0 l.part (reverse (map (λ range. range.now) l.yielded))
