-- No row from 21 to 24 holds.
-- Assumes nothing.
use mathlib.Core.Bool.{false}
use mathlib.Core.Path.{◌≡◌, sym, ◌∙◌}
use Rattle.connection.specs.Verdict.{has_old_timestamp, lacks_timestamp, rows}
use Rattle.connection.proofs.Connection.judge.Goals as goal

pub returns-then-is_acceptable : goal.returns-then-is_acceptable
unfolding rows
returns-then-is_acceptable c =
    let a = c.args in
    let stamped : lacks_timestamp a.self a.s.now ≡ false = rw (sym c.tsval_of-tsval.ensures) (sym c.is_missing.ensures ∙ c.if-is_missing.false) in
    let recent : has_old_timestamp a.self a.clock a.s.now ≡ false = rw (sym c.tsval_of-tsval.ensures) (sym c.is_old.ensures ∙ c.if-is_old.false) in
    rw (stamped, recent, sym c.is_acceptable.ensures ∙ c.if-is_acceptable.true) (c.judge_acceptable.ensures a.clock)
