-- The blocks that were read so far.
use Rattle.std.proofs.Common.{◌≡◌, ◌+◌, ◌≤◌, take}
use Rattle.segment.specs.Options.{blocks_from}
use Rattle.segment.specs.SackBlocks.{held}
use Rattle.segment.proofs.values.sack_blocks.Given as goal

abbrev pub invariant-loop-i : goal.invariant-loop-i
invariant-loop-i l = record { within : l.i ≤ l.count; read : held l.blocks ≡ take 4 (blocks_from l.i l.segment (l.at + 2)) }
