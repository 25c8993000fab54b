-- `from_be_bytes` of the octets there. Assumes nothing.
use Rattle.octets.proofs.Parts.{read_as}
use Rattle.octets.proofs.U32Number.read.Goals as goal

pub returns : goal.returns
returns c = read_as 3 c.args.octets.now c.args.at c.load.ensures c.from_be_bytes.ensures
