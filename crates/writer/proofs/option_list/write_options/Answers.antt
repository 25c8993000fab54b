-- `option_list::write_options` meets its contract. Assumes nothing.
use mathlib.Core.Path.{subst, sym}
use Rattle.std.proofs.Common.{rules}
use Rattle.writer.specs.Cursor.{Writes}
use Rattle.writer.proofs.OptionOctets.{in_order}
use Rattle.writer.proofs.Runs.{options_room, room_first, room_then, writes_then}
use Rattle.writer.proofs.option_list.write_options.Goals as goal

pub write_mss-requires : goal.write_mss-requires
write_mss-requires c = room_first _ _ (options_room c.args.options.now _ c.requires.fit c.requires.room)

pub write_timestamps-requires : goal.write_timestamps-requires
write_timestamps-requires c =
    room_first _ _ (room_then c.write_mss.ensures _ (options_room c.args.options.now _ c.requires.fit c.requires.room))

pub write_scale-requires : goal.write_scale-requires
write_scale-requires c =
    room_first _ _ (room_then c.write_timestamps.ensures _ (room_then c.write_mss.ensures _
    (options_room c.args.options.now _ c.requires.fit c.requires.room)))

pub write_sack-requires-clause-room : goal.write_sack-requires-clause-room
write_sack-requires-clause-room c =
    room_then c.write_scale.ensures _ (room_then c.write_timestamps.ensures _ (room_then c.write_mss.ensures _
    (options_room c.args.options.now _ c.requires.fit c.requires.room)))

pub returns : goal.returns
returns c =
    let sack = rw c.requires.fit at c.write_sack.ensures in
    let all = writes_then c.write_mss.ensures (writes_then c.write_timestamps.ensures (writes_then c.write_scale.ensures sack)) in
    let options = subst (Writes _ _) (sym (in_order c.args.options.now)) all in
    search rules
