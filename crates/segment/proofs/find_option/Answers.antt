-- What is read says where the options end; the walk over them finds the option. Assumes nothing.
use mathlib.Core.Path.{refl, sym, ap, ◌∙◌}
use native.Mathlib.Omega.{arith}
use Rattle.segment.specs.Options.{option_in}
use Rattle.segment.specs.Reading.{matching, shown_answer, steps_of}
use Rattle.segment.proofs.ByOctet.{options_there}
use Rattle.segment.proofs.Listed.{part_of_start}
use Rattle.segment.proofs.Readable.{answer_is, found_none, found_some, readable, start_is}
use Rattle.segment.proofs.find_option.Goals as goal

pub slice_bounds-first_listed-end : goal.slice_bounds-first_listed-end
slice_bounds-first_listed-end c =
    (readable c.args.segment.now c.in-Ok.whole (sym (answer_is c.read-reading.ensures) ∙ ap shown_answer c.in-Ok.is)).start_most

pub returns-in-Ok : goal.returns-in-Ok
returns-in-Ok c =
    let a = c.args in
    let s = a.segment.now in
    let kinds = a.kinds.now in
    let whole = c.in-Ok.whole in
    let read = sym (answer_is c.read-reading.ensures) ∙ ap shown_answer c.in-Ok.is in
    rw (found_some s kinds whole read)
    (part_of_start c.first_listed.result a.segment.ref_ptr (option_in (matching kinds) (steps_of s))
    (rw (options_there s whole.payload.start (start_is s whole read)) at c.first_listed.ensures))

pub returns-in-Err : goal.returns-in-Err
returns-in-Err c =
    let a = c.args in
    rw (found_none a.segment.now a.kinds.now c.in-Err.field-0 (sym (answer_is c.read-reading.ensures) ∙ ap shown_answer c.in-Err.is))
    (refl, refl, omega arith)
