-- `Cursor::put_pair` meets its contract. Assumes nothing.
use Rattle.writer.proofs.Runs.{writes_then}
use Rattle.writer.proofs.cursor.Cursor.put_pair.Goals as goal

pub returns : goal.returns
returns c = writes_then c.put_u32.ensures c.put_u32-2.ensures
