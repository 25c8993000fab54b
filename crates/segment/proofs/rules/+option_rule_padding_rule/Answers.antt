-- The two rules, which call each other. The measure is document 01's: twice the octets left, plus one in the padding rule. Each return
-- cites the law of the step that its way through the code meets. Assumes nothing.
use mathlib.Core.Bool.{false}
use mathlib.Core.List.{List}
use mathlib.Core.Path.{◌≡◌, refl, sym, ap, ◌∙◌}
use Prim.Native.Nat.{ℕ, ◌+◌, ◌-◌, ◌≤◌, ◌<◌}
use native.Mathlib.Omega.{arith}
use lib.ListN.{drop, get_or, length}
use Rattle.std.specs.Prelude.{None, is_some}
use Rattle.segment.specs.Grammar.{is_broken, option_rule, padding_rule}
use Rattle.segment.specs.Options.{is_wrong_length}
use Rattle.segment.specs.Internal.{Answers, Room}
use Rattle.segment.specs.Kinds.{kind_number}
use Rattle.segment.specs.declared.kinds.Kind.{Kind}
use Rattle.segment.specs.declared.notes.Notes.{Notes}
use Rattle.segment.proofs.ByOctet.{broken_there, octets_least, octets_most, whole_there}
use Rattle.segment.proofs.KindsKnown.{kind_known}
use Rattle.segment.proofs.Noting.{placed, room_placed, room_skipping, stepped, stepped_noted}
use Rattle.segment.proofs.Outcomes.{at_broken, at_end, at_known, at_option, at_past, at_repeated, at_skipped, at_wrong}
use Rattle.segment.proofs.rules.+option_rule_padding_rule.Goals as goal

-- An option that is not broken, with its length n.
module _ (header : List ℕ) (at n : ℕ) (there : (is_broken (drop at header) ≡ false) × (n ≡ get_or header (at + 1) 0)) where
  fits : (2 ≤ n) × (at + n ≤ length header)
  fits = rw there.1 (octets_least header at there.0, octets_most header at there.0)

  -- One of a known kind and a right length, the first of its kind, whose place is noted: what is answered to the octets after it is answered
  -- to it too.
  with_place : (notes noted : Notes) (kind : Kind) → length notes.places ≡ 9 → kind_number kind ≡ get_or header at 0
      → is_wrong_length (kind_number kind) n ≡ false → is_some (get_or notes.places (kind_number kind) None) ≡ false
      → noted ≡ placed (stepped notes 1) (kind_number kind) at → (later : Notes)
      → Answers (padding_rule (at + n) (drop (at + n) header)) noted later → Answers (option_rule at (drop at header)) notes later
  with_place notes noted kind size is right none e later after before p =
      at_known before _ header at there.0 (stepped notes 1) (stepped_noted notes before p 1) refl later size
      (rw is at (kind_known kind)) (rw (is, there.1) at right) (rw is at none) (rw (e, is, there.1) at after)

pub option_rule-returns-in_default : goal.option_rule-returns-in_default
option_rule-returns-in_default t c = λ before p.
    let a = c.args in
    at_broken before _ a.header.now a.at (stepped a.notes.now 1) refl (broken_there a.header.now a.at c.whole_option.ensures c.in_default.is)

pub option_rule-padding_rule-requires : goal.option_rule-padding_rule-requires
option_rule-padding_rule-requires t c =
    let a = c.args in
    let there = fits a.header.now a.at _ (whole_there a.header.now a.at c.whole_option.ensures c.in-Some.is) in
    let room = room_skipping a.notes.now a.at c.requires.0 _ there.0 in
    (omega (arith, there, c.decreases), (room, there.1, c.requires.2))

pub option_rule-returns-in_default-try_from : goal.option_rule-returns-in_default-try_from
option_rule-returns-in_default-try_from t c = λ before p.
    let a = c.args in
    let there = whole_there a.header.now a.at c.whole_option.ensures c.in-Some.is in
    at_skipped before _ a.header.now a.at there.0 (stepped a.notes.now 1) (stepped_noted a.notes.now before p 1) refl _
    c.in_default-try_from.ensures (rw there.1 at c.padding_rule.ensures)

pub option_rule-returns-then-is_wrong_length : goal.option_rule-returns-then-is_wrong_length
option_rule-returns-then-is_wrong_length t c = λ before p.
    let a = c.args in
    let there = whole_there a.header.now a.at c.whole_option.ensures c.in-Some.is in
    let wrong = rw (c.in-Ok.ensures, there.1) at (sym c.is_wrong_length.ensures ∙ c.if-is_wrong_length.true) in
    at_wrong before _ a.header.now a.at (stepped a.notes.now 1) refl there.0 wrong

pub option_rule-returns-then-is_some : goal.option_rule-returns-then-is_some
option_rule-returns-then-is_some t c = λ before p.
    let a = c.args in
    let is = c.in-Ok.ensures in
    let there = whole_there a.header.now a.at c.whole_option.ensures c.in-Some.is in
    let right = rw (is, there.1) at (sym c.is_wrong_length.ensures ∙ c.if-is_wrong_length.false) in
    let noted = rw (c.set_place-before.ensures.before, is) at (sym c.is_some.ensures ∙ c.if-is_some.true) in
    at_repeated before _ a.header.now a.at c.set_place-before.new.self (ap (λ (noted : Notes). noted.steps) c.set_place-before.ensures.noted) there.0 right
    (rw is at (kind_known c.in-Ok.kind)) (stepped a.notes.now 1) (stepped_noted a.notes.now before p 1) noted

pub option_rule-returns-else-next-header : goal.option_rule-returns-else-next-header
option_rule-returns-else-next-header t c =
    let a = c.args in
    let there = whole_there a.header.now a.at c.whole_option.ensures c.in-Some.is in
    let right = sym c.is_wrong_length.ensures ∙ c.if-is_wrong_length.false in
    with_place a.header.now a.at _ there a.notes.now _ c.in-Ok.kind c.requires.0.kinds c.in-Ok.ensures right
    (ap is_some (sym c.set_place-before.ensures.before) ∙ sym c.is_some.ensures ∙ c.if-is_some.false) c.set_place-before.ensures.noted _
    (λ before p. at_past before _ _ _ c.if-next-header.false _ p refl)

pub option_rule-padding_rule-requires-then-next-header : goal.option_rule-padding_rule-requires-then-next-header
option_rule-padding_rule-requires-then-next-header t c =
    let a = c.args in
    let there = fits a.header.now a.at _ (whole_there a.header.now a.at c.whole_option.ensures c.in-Some.is) in
    let room : Room c.set_place-before.new.self (a.at + c.in-Some.n) =
    rw c.set_place-before.ensures.noted (room_placed a.notes.now a.at c.requires.0 _ there.0 (kind_number c.in-Ok.kind) a.at) in
    (omega (arith, there, c.decreases), (room, there.1, c.requires.2))

pub option_rule-returns-then-next-header : goal.option_rule-returns-then-next-header
option_rule-returns-then-next-header t c =
    let a = c.args in
    let there = whole_there a.header.now a.at c.whole_option.ensures c.in-Some.is in
    let right = sym c.is_wrong_length.ensures ∙ c.if-is_wrong_length.false in
    with_place a.header.now a.at _ there a.notes.now _ c.in-Ok.kind c.requires.0.kinds c.in-Ok.ensures right
    (ap is_some (sym c.set_place-before.ensures.before) ∙ sym c.is_some.ensures ∙ c.if-is_some.false) c.set_place-before.ensures.noted _ c.padding_rule-then-next-header.ensures

pub padding_rule-returns-then-header-at : goal.padding_rule-returns-then-header-at
padding_rule-returns-then-header-at t c = λ before p.
    let a = c.args in
    let nops = c.after_nops-at in
    let n = nops.result - a.from in
    nops.ensures.passed before _ _
    (at_past before _ a.header.now nops.result c.if-header-at.true (stepped a.notes.now n) (stepped_noted a.notes.now before p n) refl)

pub padding_rule-returns-then-header-at-eq-END : goal.padding_rule-returns-then-header-at-eq-END
padding_rule-returns-then-header-at-eq-END t c = λ before p.
    let a = c.args in
    let nops = c.after_nops-at in
    let later = stepped a.notes.now (nops.result - a.from) in
    nops.ensures.passed before _ _
    (at_end before _ a.header.now nops.result (omega (arith, c.if-header-at.false)) (omega (arith, c.if-header-at-eq-END.true))
    (stepped later 1) (stepped_noted later before (stepped_noted a.notes.now before p (nops.result - a.from)) 1) refl)

pub padding_rule-returns : goal.padding_rule-returns
padding_rule-returns t c = λ before p.
    let a = c.args in
    let nops = c.after_nops-at in
    let within : nops.result < length a.header.now = omega (arith, c.if-header-at.false) in
    nops.ensures.passed before _ _
    (at_option before _ a.header.now nops.result within _ (λ e. c.if-header-at-eq-END.false (omega (arith, e))) (nops.ensures.no_nop within)
    (c.option_rule.ensures before (stepped_noted a.notes.now before p (nops.result - a.from))))
