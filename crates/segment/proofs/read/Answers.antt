-- E1, E2 and E3 by the tests, then what the rules make of the options. Assumes nothing.
use mathlib.Core.List.{List, []}
use mathlib.Core.Logic.{◌⊎◌, inl, inr}
use mathlib.Core.Path.{◌≡◌, refl, sym, ap, ◌∙◌}
use Prim.Native.Nat.{ℕ, ◌-◌, ◌*◌, ◌≤◌, ◌<◌}
use native.Mathlib.Omega.{arith}
use lib.ListN.{drop, length, take}
use borrow.Author.Tests.{le-ltb, lt-ltb}
use Rattle.std.specs.Prelude.{None, Some, Err}
use Rattle.segment.specs.Grammar.{Step, padding_rule}
use Rattle.segment.specs.Options.{options_of, stands_in}
use Rattle.segment.specs.Reading.{data_offset, fault_place, number_of, read_as, reading, refused, refused_at, reported, segment_of, shown, shown_answer, steps_of, steps_taken}
use Rattle.segment.specs.Internal.{Answers, Noted, Outcome, StandAll, place_or_0}
use Rattle.segment.specs.declared.Refusal.{Refusal}
use Rattle.segment.specs.declared.Options.{Options}
use Rattle.segment.specs.declared.Segment.{Segment}
use Rattle.segment.specs.declared.notes.Notes.{Notes}
use Rattle.segment.proofs.ByOctet.{options_there}
use Rattle.segment.proofs.Noting.{no_notes, none_noted}
use Rattle.segment.proofs.Readable.{Passed, fault_range, first_below, no_steps, not_below, read_if, refused_if, second_below, steps_if}
use Rattle.segment.proofs.Standing.{stand_all}
use Rattle.segment.proofs.read.Goals as goal

pub returns-then-segment-lt-FIXED_HEADER : goal.returns-then-segment-lt-FIXED_HEADER
unfolding reading stands_in
returns-then-segment-lt-FIXED_HEADER c =
    let s = c.args.segment.now in
    let is : reading s ≡ refused 1 = simp (lt-ltb (length s) 20 (omega (arith, c.if-segment-lt-FIXED_HEADER.true))) in
    ap shown c.unread.ensures ∙ sym (no_steps s 1 refl is)

pub returns-then-segment-gt-MAX_SEGMENT : goal.returns-then-segment-gt-MAX_SEGMENT
unfolding reading stands_in
returns-then-segment-gt-MAX_SEGMENT c =
    let s = c.args.segment.now in
    let is : reading s ≡ refused 2 = simp (
      le-ltb (length s) 20 (omega (arith, c.if-segment-lt-FIXED_HEADER.false)),
      lt-ltb 65535 (length s) (omega (arith, c.if-segment-gt-MAX_SEGMENT.true)),
    ) in
    ap shown c.unread-then-segment-gt-MAX_SEGMENT.ensures ∙ sym (no_steps s 2 refl is)

offset_refused : (s : List ℕ) → 20 ≤ length s → length s ≤ 65535
    → (4 * data_offset s < 20) ⊎ ((20 ≤ 4 * data_offset s) × (length s < 4 * data_offset s)) → reading s ≡ refused 3
unfolding reading
offset_refused s long short (inl low) =
    not_below (length s) _ _ _ long ∙ not_below _ (length s) _ _ short ∙ first_below (data_offset s) _ (length s) _ _ _ (omega arith)
offset_refused s long short (inr (least, past)) =
    not_below (length s) _ _ _ long ∙ not_below _ (length s) _ _ short ∙ second_below (data_offset s) _ (length s) _ _ _ (omega arith) past

pub returns-then-end-lt-FIXED_HEADER : goal.returns-then-end-lt-FIXED_HEADER
unfolding stands_in
returns-then-end-lt-FIXED_HEADER c =
    let s = c.args.segment.now in
    let is = offset_refused s c.if-segment-lt-FIXED_HEADER.false c.if-segment-gt-MAX_SEGMENT.false (rw c.end-end.ensures.0 at c.then-end-lt-FIXED_HEADER.either) in
    ap shown c.unread-then-end-lt-FIXED_HEADER.ensures ∙ sym (no_steps s 3 refl is)

-- a refusal that the rules give shows its fault
fault_shown : (why : Refusal) → 4 ≤ number_of why → shown_answer (Err why) ≡ refused_at (record { number = number_of why; place = place_or_0 (fault_place why) })
fault_shown Refusal.TooShort h = absurd (omega arith)
fault_shown Refusal.TooLong h = absurd (omega arith)
fault_shown Refusal.BadDataOffset h = absurd (omega arith)
fault_shown (Refusal.BrokenOption place) h = refl
fault_shown (Refusal.WrongOptionLength place) h = refl
fault_shown (Refusal.RepeatedOption place) h = refl

-- What E1, E2 and E3 let pass, and what the rules make of its options.
module _ (s : List ℕ) (end : ℕ) (at_end : end ≡ 4 * data_offset s) (long : 20 ≤ length s) (short : length s ≤ 65535) (least : 20 ≤ end)
    (most : end ≤ length s) where
  passed : Passed s
  passed = record { long = long; short = short; offset_least = omega arith; offset_most = omega arith }

  module _ (notes : Notes) (answers : Answers (padding_rule 20 (drop 20 (take (end - 0) s))) no_notes notes) where
    outcome : Outcome [] 0 (steps_of s) notes
    outcome = rw (options_there s end at_end) at (answers [] none_noted)

    steps_are : notes.steps ≡ steps_taken s
    steps_are = omega (arith, outcome.counted, ap length (steps_if s passed))

    refuses : (why : Refusal) → notes.refusal ≡ Some why → record { answer = shown_answer (Err why); steps = notes.steps } ≡ reported s
    refuses why e =
        let fault = rw e at outcome.fault_is in
        let range = fault_range [] (steps_of s) _ fault in
        let is = fault_shown why range.0 ∙ sym (refused_if s passed _ fault) in
        λ i. record { answer = is i; steps = steps_are i }

    reads : notes.refusal ≡ None → (options : Options)
        → ((steps : List Step) → Noted steps notes → StandAll s steps → options ≡ options_of steps) → (w : Segment)
        → w ≡ segment_of s end notes.skipped options → record { answer = read_as w; steps = notes.steps } ≡ reported s
    reads e options said w fields =
        let faultless = rw e at outcome.fault_is in
        let noted = outcome.noted e in
        let values = said (steps_of s) noted (stand_all s passed.offset_least faultless) in
        let is = ap read_as (fields ∙ (λ i. segment_of s (at_end i) (noted.skipped i) (values i))) ∙ sym (read_if s passed faultless) in
        λ i. record { answer = is i; steps = steps_are i }

pub returns-in-Some : goal.returns-in-Some
returns-in-Some c =
    let end = c.end-end in
    let answers = rw c.new-notes.ensures at c.padding_rule.ensures in
    refuses c.args.segment.now end.result end.ensures.0 c.if-segment-lt-FIXED_HEADER.false c.if-segment-gt-MAX_SEGMENT.false
    c.if-end-lt-FIXED_HEADER.false c.if-segment-end.false _ answers c.in-Some.why c.in-Some.is

pub returns : goal.returns
returns c =
    let end = c.end-end in
    let answers = rw c.new-notes.ensures at c.padding_rule.ensures in
    let by_options = reads c.args.segment.now end.result end.ensures.0 c.if-segment-lt-FIXED_HEADER.false c.if-segment-gt-MAX_SEGMENT.false
    c.if-end-lt-FIXED_HEADER.false c.if-segment-end.false _ answers c.in_default.is in
    by_options _ c.options-options.ensures _ c.fields.ensures
