-- `option_list::write_sack` meets its contract. Assumes nothing.
use mathlib.Core.Path.{sym, subst}
use Prim.Native.Nat.{◌<◌}
use native.Mathlib.Omega.{arith}
use lib.ListN.{length}
use lib.Seq.{take_all}
use Rattle.std.proofs.lemmas.Bool.Decides.{nat_tests}
use Rattle.writer.specs.Cursor.{HasRoom, Writes}
use Rattle.writer.specs.Writing.{blocks_written}
use Rattle.writer.proofs.OptionOctets.{sack_parts}
use Rattle.writer.proofs.Runs.{blocks_left, blocks_more, room_first, room_then, writes_none, writes_then}
use Rattle.writer.proofs.option_list.write_sack.Goals as goal

pub put-requires-2 : goal.put-requires-2
unfolding blocks_written
put-requires-2 c =
    let some : 0 < length c.args.blocks.now = grind (arith, nat_tests) in
    room_first _ _ (room_then c.put.ensures _ (subst (HasRoom _) (sack_parts _ some) c.requires.room))

pub loop-block-init : goal.loop-block-init
unfolding blocks_written
loop-block-init c =
    let some : 0 < length c.args.blocks.now = grind (arith, nat_tests) in
    (writes_none _, room_then c.put-2.ensures _ (room_then c.put.ensures _ (subst (HasRoom _) (sack_parts _ some) c.requires.room)))

pub loop-block-preserved : goal.loop-block-preserved
loop-block-preserved c =
    let i = c.loop-block.block-index in (
      subst (Writes _ _) (sym (blocks_more c.args.blocks.now i _ c.loop-block-test.true)) (writes_then c.loop-block.invariant.0 c.put_pair.ensures),
      room_then c.put_pair.ensures _ (subst (HasRoom _) (blocks_left c.args.blocks.now i _ c.loop-block-test.true) c.loop-block.invariant.1),
    )

pub returns : goal.returns
returns c =
    let some : 0 < length c.args.blocks.now = grind (arith, nat_tests) in
    let all = take_all c.loop-block.block-index c.args.blocks.now c.loop-block-test.false in
    subst (Writes _ _) (sym (sack_parts _ some)) (writes_then c.put.ensures (writes_then c.put-2.ensures (rw all at c.loop-block.invariant.0)))
