-- TSval, then TSecr. Assumes nothing.
use mathlib.Core.Path.{sym, ap, ◌∙◌}
use native.Mathlib.Omega.{arith}
use Rattle.std.specs.Prelude.{Some}
use Rattle.segment.specs.Options.{timestamps_of}
use Rattle.segment.proofs.Standing.{number_there, one_there}
use Rattle.segment.proofs.values.timestamps.Goals as goal

pub returns : goal.returns
returns c = λ f e stands.
    let there = one_there c.from-at.result f (ap Some c.from-at.ensures ∙ sym c.in_ok-place.was ∙ e) in
    let st = stands _ _ there.1 in
    let value = c.read.ensures ∙ number_there st 4 2 (omega (arith, st.least)) in
    let echoed = c.read-2.ensures ∙ number_there st 4 6 (omega (arith, st.least)) in
    (λ i. Some (record { value = record { 0 = value i }; echoed = record { 0 = echoed i } })) ∙ sym (ap timestamps_of there.1)
