-- The ranges that were passed are the blocks, at most four. Assumes nothing.
use Rattle.std.proofs.Common.{◌≡◌, take}
use mathlib.Core.List.{map}
use Rattle.segment.specs.SackBlocks.{held}
use Rattle.acknowledgment.proofs.first_ranges.Given as goal

abbrev pub invariant-loop-range : goal.invariant-loop-range
invariant-loop-range l = held l.blocks ≡ take 4 (map (λ r. r.now) l.yielded)
