-- `acknowledgment::write` meets its contract. Assumes nothing.
use native.Mathlib.Omega.{arith}
use Rattle.std.proofs.lemmas.Result.{err_from_is_err_and}
use Rattle.acknowledgment.proofs.Answers.{by_writing}
use Rattle.acknowledgment.proofs.write.Goals as goal

pub returns-in_err-length-clause-answer : goal.returns-in_err-length-clause-answer
returns-in_err-length-clause-answer c =
    let a = c.args in
    let written = rw (c.own_header.ensures, c.own_options.ensures, c.in_err-length.was) at c.write.ensures in
    let p = err_from_is_err_and c.from_residual.result c.from_residual.ensures.1 in
    rw (p.1, p.2) (by_writing a.k a.ports a.clock a.buffer.now (omega arith) written)

pub returns-clause-answer : goal.returns-clause-answer
returns-clause-answer c =
    let a = c.args in
    let written = rw (c.own_header.ensures, c.own_options.ensures, c.in_ok-length.was) at c.write.ensures in
    rw c.record_after.ensures (by_writing a.k a.ports a.clock a.buffer.now (omega arith) written)
