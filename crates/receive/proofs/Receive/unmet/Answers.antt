-- The range that comes stands after those passed so far. Assumes nothing.
use Rattle.std.proofs.Common.{length, take, ap, sym, ◌∙◌, arith}
use Rattle.std.proofs.lemmas.List.{length-take}
use Rattle.receive.proofs.Joining.{meets_here, misses_here, slot_left}
use Rattle.receive.proofs.Slots.{ranges_most}
use Rattle.receive.proofs.Receive.unmet.Goals as goal
use Rattle.receive.proofs.Receive.unmet.Goals.{then-not-meets, else-not-meets}

pub push-requires : goal.push-requires
push-requires c =
    let l = c.as_slice-range-items.result.now in
    let i = c.loop-range.range-index in
    slot_left _ _ (take i l) _ c.loop-range.invariant
    (omega (arith, length-take i l, ranges_most c.args.self.now.held (omega arith), ap length c.as_slice-range-items.ensures))

pub loop-range-preserved : goal.loop-range-preserved
loop-range-preserved c =
    elim c.if-not-meets.branch [
      | then-not-meets w ↦
          misses_here _ _ _ _ c.loop-range-test.true _ c.loop-range.invariant (sym c.meets.ensures ∙ w.if-not-meets.true) _
          (w.rest-is ∙ w.push.ensures)
      | else-not-meets w ↦
          w.rest-is ∙ meets_here _ _ _ _ c.loop-range-test.true _ c.loop-range.invariant (sym c.meets.ensures ∙ w.if-not-meets.false)
    ]
