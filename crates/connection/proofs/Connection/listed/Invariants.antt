use Rattle.std.proofs.Common.{◌≡◌, take}
use Rattle.laws.specs.Lists.{filter}
use Rattle.segment.specs.SackBlocks.{held}
use Rattle.send.specs.Send.{is_listed}
use Rattle.connection.proofs.Connection.listed.Given as goal

-- those of the blocks so far that are listed
abbrev pub invariant-loop-block : goal.invariant-loop-block
invariant-loop-block l = held l.listed ≡ filter (is_listed l.self.send) (take l.block-index l.block-items)
