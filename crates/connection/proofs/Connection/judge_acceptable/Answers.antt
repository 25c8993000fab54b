-- No row from 25 to 28 holds.
-- Assumes nothing.
use Rattle.connection.specs.Verdict.{rows}
use Rattle.connection.proofs.Connection.judge_acceptable.Goals as goal

pub returns : goal.returns
unfolding rows
returns c clock = rw (c.if-s.false, c.if-s-2.false, c.if-not-s.false) (c.judge_plain.ensures clock)
