-- The range that comes stands before those passed so far; after the last of them all have been passed. Assumes nothing.
use Rattle.std.proofs.Common.{◌≡◌, [], ◌∷◌, ◌++◌, List, map, reverse, refl, sym, ◌∙◌, Bor}
use Rattle.std.proofs.lemmas.List.{map-append, reverse-append, reverse-reverse}
use Rattle.std.proofs.lemmas.Iterator.Adapters.{YieldsList-from_rev_slice}
use Rattle.std.proofs.lemmas.Iterator.Consumers.{YieldsList-end}
use Rattle.serial.specs.declared.Range.{Range}
use Rattle.receive.specs.Ranges.{joined, left_of, ranges_of, right_of}
use Rattle.receive.proofs.Joining.{joined_more, joined_same}
use Rattle.receive.proofs.Receive.joined.Goals as goal

abbrev passed : List (Bor Range) → List Range
passed xs = reverse (map (λ range. range.now) xs)

one_more : (xs : List (Bor Range)) (x : Bor Range) → passed (xs ++ x ∷ []) ≡ x.now ∷ passed xs
one_more xs x = simp (map-append, reverse-append)

pub loop-range-init : goal.loop-range-init
unfolding joined
loop-range-init c = refl

pub loop-range-preserved-then-meets : goal.loop-range-preserved-then-meets
unfolding left_of right_of
loop-range-preserved-then-meets c =
    rw (one_more c.loop-range.yielded c.in-Some.range, c.min.ensures, c.offset.ensures, c.max.ensures, c.offset-then-meets.ensures)
    (joined_more _ _ (passed c.loop-range.yielded) _ _ c.loop-range.invariant (sym c.meets.ensures ∙ c.if-meets.true))

pub loop-range-preserved : goal.loop-range-preserved
loop-range-preserved c =
    rw (one_more c.loop-range.yielded c.in-Some.range)
    (c.loop-range.invariant ∙ sym (joined_same _ _ (passed c.loop-range.yielded) _ (sym c.meets.ensures ∙ c.if-meets.false)))

pub returns : goal.returns
returns c =
    let all = YieldsList-end (YieldsList-from_rev_slice (ranges_of c.args.self.now.held) cc) c.loop-range.yielded _ c.loop-range.yielded_by _ _ c.in-None.is c.next.ensures.steps in
    rw (all.0, reverse-reverse) at c.loop-range.invariant
