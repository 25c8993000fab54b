-- The octets of `to_be_bytes`. Assumes nothing.
use Rattle.std.proofs.Common.{arith}
use Rattle.octets.proofs.Parts.{written_as}
use Rattle.octets.proofs.U16Number.write.Goals as goal

pub returns : goal.returns
returns c = written_as 2 c.args.self c.args.octets.now c.args.at (omega arith) c.to_be_bytes.ensures c.store.ensures
