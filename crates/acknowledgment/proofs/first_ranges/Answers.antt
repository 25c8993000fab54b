-- `acknowledgment::first_ranges` meets its contract. Assumes nothing.
use Rattle.std.proofs.Common.{[], ◌∷◌, ◌++◌, ◌≤◌, length, take, sym, ap, ◌∙◌, arith}
use Rattle.std.proofs.lemmas.Iterator.{YieldsList-from_slice, YieldsList-from_take}
use Rattle.std.proofs.lemmas.Iterator.Consumers.{YieldsList-end}
use Rattle.std.proofs.lemmas.List.{length-take, map-append, take_all}
use Rattle.segment.proofs.Blocks.{take_again}
use Rattle.acknowledgment.proofs.first_ranges.Goals as goal

pub loop-range-preserved : goal.loop-range-preserved
loop-range-preserved c =
    let more = c.in-Some.range.now ∷ [] in
    c.push.ensures ∙ ap (λ blocks. take 4 (blocks ++ more)) c.loop-range.invariant ∙ take_again 4 _ more
    ∙ ap (take 4) (sym (map-append _ c.loop-range.yielded (c.in-Some.range ∷ [])))

pub returns : goal.returns
returns c =
    let first = take c.args.most c.args.ranges.now in
    let few : length first ≤ 4 = omega (arith, length-take c.args.most c.args.ranges.now) in
    let passed = YieldsList-from_take 4 (YieldsList-from_take c.args.most (YieldsList-from_slice c.args.ranges.now cc) cc) cc in
    let all = YieldsList-end passed c.loop-range.yielded _ c.loop-range.yielded_by _ _ c.in-None.is c.next.ensures.steps in
    c.loop-range.invariant ∙ ap (take 4) (all.0 ∙ take_all 4 first few) ∙ take_all 4 first few
