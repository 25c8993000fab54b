-- The value stands after kind and length. Assumes nothing.
use mathlib.Core.Path.{sym, ap, ◌∙◌}
use native.Mathlib.Omega.{arith}
use Rattle.std.specs.Prelude.{Some}
use Rattle.segment.specs.Options.{mss_of}
use Rattle.segment.proofs.Standing.{number_there, one_there}
use Rattle.segment.proofs.values.mss.Goals as goal

pub returns : goal.returns
returns c = λ f e stands.
    let there = one_there c.from-at.result f (ap Some c.from-at.ensures ∙ sym c.in_ok-place.was ∙ e) in
    let st = stands _ _ there.1 in
    ap Some (c.read.ensures ∙ number_there st 2 2 (omega (arith, st.least))) ∙ sym (ap mss_of there.1)
