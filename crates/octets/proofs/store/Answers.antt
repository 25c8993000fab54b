-- All the octets are stored, or those that reach the end. Assumes nothing.
use Rattle.std.proofs.Common.{◌+◌, ◌-◌, sym, arith}
use Rattle.octets.proofs.Stores.{sets_out, stored_cut, stored_whole}
use Rattle.octets.proofs.store.Goals as goal

pub returns-in_default : goal.returns-in_default
returns-in_default g c = sym (sets_out c.args.octets.now c.args.at c.args.number (omega (arith, c.in_default.ensures)))

pub returns-then-room : goal.returns-then-room
returns-then-room g c =
    stored_whole c.args.octets.now _ c.args.at (c.args.at + g.row.N - c.args.at) (omega arith) c.copy_from_slice.ensures.len _
    c.copy_from_slice.ensures.after

pub returns-else-room : goal.returns-else-room
returns-else-room g c =
    stored_cut c.args.octets.now _ c.args.at _ (omega arith) c.copy_from_slice-else-room.ensures.len _ _ (omega arith)
    c.copy_from_slice-else-room.ensures.after
