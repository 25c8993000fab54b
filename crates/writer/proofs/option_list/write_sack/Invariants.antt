-- The blocks that were passed are written, and the others have room. Assumes nothing.
use Rattle.std.proofs.Common.{drop, take}
use Rattle.writer.specs.Cursor.{HasRoom, Writes}
use Rattle.writer.specs.Writing.{blocks_written}
use Rattle.writer.proofs.option_list.write_sack.Given as goal

abbrev pub invariant-loop-block : goal.invariant-loop-block
invariant-loop-block l =
    Writes l.initial.out l.out (blocks_written (take l.block-index l.blocks)) × HasRoom l.out (blocks_written (drop l.block-index l.blocks))
