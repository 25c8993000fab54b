-- A kind that cannot match stands among none that can; any other stands there if it stands in the list. Assumes nothing.
use mathlib.Core.Path.{sym, ◌∙◌}
use borrow.Author.Tests.{le-leb, lt-leb}
use Rattle.segment.proofs.Membership.{any_stands, stands_failed, stands_passed}
use Rattle.segment.proofs.finding.is_listed.Goals as goal

pub returns-then-kind-ge-LEAST_LISTED : goal.returns-then-kind-ge-LEAST_LISTED
returns-then-kind-ge-LEAST_LISTED c =
    let kind = c.args.kind in
    let kinds = c.args.kinds.now in
    c.contains.ensures.value ∙ any_stands kind kinds ∙ sym (stands_passed _ _ kinds (le-leb _ _ c.if-kind-ge-LEAST_LISTED.true))

pub returns-else-kind-ge-LEAST_LISTED : goal.returns-else-kind-ge-LEAST_LISTED
returns-else-kind-ge-LEAST_LISTED c =
    let low = lt-leb _ _ c.if-kind-ge-LEAST_LISTED.false in
    low ∙ sym (stands_failed _ _ c.args.kinds.now low)
