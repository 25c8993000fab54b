-- Which number a segment is given, exactly when document 01 says: "E1, E2, E3 in this order; then options left to right, at each one E4, E5,
-- E6"; with which place: "with E4, E5 or E6, the offset in the segment of the kind octet at fault", which is 20 and the octets of the steps before
-- the option; and with how many steps: "A refused list counts the faulty option too", "0 with E1 to E3". Assumes nothing.
use mathlib.Core.Bool.{Bool, true, false}
use mathlib.Core.List.{List, [], ◌∷◌, ◌++◌, append_assoc, append-nil}
use mathlib.Core.Logic.{◌⊎◌, inl, inr}
use mathlib.Core.Option.{Option, none, some}
use mathlib.Core.Path.{◌≡◌, refl, sym, ap, subst, ◌∙◌}
use Prim.Native.Nat.{ℕ, ◌+◌, ◌*◌, ◌/◌, ◌≤◌, ◌<◌}
use native.Mathlib.Omega.{arith}
use lib.Dec.{eqb, ltb}
use lib.ListN.{get_or, length, length-append}
use borrow.Author.Tests.{eqb-false, eqb-true, ltb-false, ltb-true, ne_eqb}
use Rattle.segment.specs.Grammar.{Step}
use Rattle.segment.specs.Options.{fault_at, fault_in, stands_in, step_place, up_to_fault}
use Rattle.segment.specs.Reading.{Answer, Report, data_offset, reading, refused, steps_of, steps_taken}
use Rattle.segment.specs.declared.Segment.{Segment}
use Rattle.segment.proofs.Faults.{Judged, judged, judged_only}
use Rattle.segment.proofs.Readable.{Passed, below, first_below, no_steps, not_below, read_if, refused_if, second_below, steps_if}
use Rattle.segment.proofs.Steps.{octets_in, place_counted}

-- no step has a fault, each given those before it
abbrev pub Faultless : List Step → Type 0
Faultless steps = (before : List Step) (step : Step) (after : List Step) → steps ≡ before ++ (step ∷ after) → Judged before step 0

-- the number of a segment, 1 to 6, and 0 where it is read; and the place and the steps that come with it
pub data Given (s : List ℕ) : ℕ → Option ℕ → ℕ → Type 0 where
  too_short : length s < 20 → Given s 1 none 0
  too_long : 65535 < length s → Given s 2 none 0
  offset_low : 20 ≤ length s → length s ≤ 65535 → get_or s 12 0 / 16 < 5 → Given s 3 none 0
  offset_past : 20 ≤ length s → length s ≤ 65535 → 5 ≤ get_or s 12 0 / 16 → length s < 4 * (get_or s 12 0 / 16) → Given s 3 none 0
  -- the first faulty step from the left decides
  faulty : Passed s → (before : List Step) (step : Step) (after : List Step) (n : ℕ) → steps_of s ≡ before ++ (step ∷ after)
      → Faultless before → Judged before step n → (n ≡ 0 → ⊥) → Given s n (some (20 + octets_in before)) (length before + 1)
  readable : Passed s → Faultless (steps_of s) → Given s 0 none (length (steps_of s))

-- the same of steps that follow others, by the definition
abbrev NoneIn : List Step → List Step → Type 0
NoneIn prior steps = (before : List Step) (step : Step) (after : List Step) → steps ≡ before ++ (step ∷ after) → fault_at (prior ++ before) step ≡ 0

abbrev head_or : Step → List Step → Step
head_or other [] = other
head_or other (step ∷ later) = step

abbrev tail_of : List Step → List Step
tail_of [] = []
tail_of (step ∷ later) = later

none_later : (prior : List Step) (step : Step) (later : List Step) → NoneIn prior (step ∷ later) → NoneIn (prior ++ (step ∷ [])) later
none_later prior step later pass before x after e =
    ap (λ (l : List Step). fault_at l x) (append_assoc prior (step ∷ []) before) ∙ pass (step ∷ before) x after (ap (λ (l : List Step). step ∷ l) e)

none_here : (prior : List Step) (step : Step) (later : List Step) → NoneIn prior (step ∷ later) → fault_at prior step ≡ 0
none_here prior step later pass = ap (λ (l : List Step). fault_at l step) (sym (append-nil prior)) ∙ pass [] step later refl

none_more : (prior : List Step) (step : Step) (later : List Step) → fault_at prior step ≡ 0 → NoneIn (prior ++ (step ∷ [])) later → NoneIn prior (step ∷ later)
none_more prior step later here pass [] x after e =
    ap (λ (l : List Step). fault_at l x) (append-nil prior) ∙ ap (fault_at prior) (sym (ap (head_or step) e)) ∙ here
none_more prior step later here pass (y ∷ before) x after e =
    let joined : prior ++ (y ∷ before) ≡ (prior ++ (step ∷ [])) ++ before =
    ap (λ (z : Step). prior ++ (z ∷ before)) (sym (ap (head_or step) e)) ∙ sym (append_assoc prior (step ∷ []) before) in
    ap (λ (l : List Step). fault_at l x) joined ∙ pass before x after (ap tail_of e)

-- steps without fault leave it to the later ones, and count before those that do
passes : (prior earlier later : List Step) → NoneIn prior earlier
    → (fault_in prior (earlier ++ later) ≡ fault_in (prior ++ earlier) later)
    × (up_to_fault prior (earlier ++ later) ≡ earlier ++ up_to_fault (prior ++ earlier) later)
unfolding fault_in up_to_fault
passes prior [] later pass =
    let all = sym (append-nil prior) in
    (ap (λ (l : List Step). fault_in l later) all, ap (λ (l : List Step). up_to_fault l later) all)
passes prior (step ∷ earlier) later pass =
    let here : fault_at prior step ≡ 0 = none_here prior step earlier pass in
    let rest = passes (prior ++ (step ∷ [])) earlier later (none_later prior step earlier pass) in
    let joined = append_assoc prior (step ∷ []) earlier in (
      rw here (rest.0 ∙ ap (λ (l : List Step). fault_in l later) joined),
      rw here (ap (λ (l : List Step). step ∷ l) (rest.1 ∙ ap (λ (l : List Step). earlier ++ up_to_fault l later) joined)),
    )

no_fault : (steps : List Step) → NoneIn [] steps → (fault_in [] steps ≡ none) × (up_to_fault [] steps ≡ steps)
unfolding fault_in up_to_fault
no_fault steps pass =
    let all = sym (append-nil steps) in
    let passed = passes [] steps [] pass in
    (ap (fault_in []) all ∙ passed.0, ap (up_to_fault []) all ∙ passed.1 ∙ append-nil steps)

first_fault : (before : List Step) (step : Step) (after : List Step) (n : ℕ) → NoneIn [] before → fault_at before step ≡ n → (n ≡ 0 → ⊥)
    → (fault_in [] (before ++ (step ∷ after)) ≡ some (record { number = n; place = step_place step }))
    × (up_to_fault [] (before ++ (step ∷ after)) ≡ before ++ (step ∷ []))
unfolding fault_in up_to_fault
first_fault before step after n pass e given =
    let passed = passes [] before (step ∷ after) pass in
    (passed.0 ∙ rw e (simp (ne_eqb n 0 given)), passed.1 ∙ rw e (simp (ne_eqb n 0 given)))

-- the first step with a fault, if there is one
FirstFault : List Step → List Step → Type 0
FirstFault prior steps =
    NoneIn prior steps
    ⊎ ((before : List Step) × (step : Step) × (after : List Step) × (steps ≡ before ++ (step ∷ after)) × NoneIn prior before
    × (fault_at (prior ++ before) step ≡ 0 → ⊥))

look : (prior steps : List Step) → FirstFault prior steps
unfolding FirstFault
look prior [] = inl (λ before step after e. absurd (omega (arith, ap length e, length-append before (step ∷ after))))
look prior (step ∷ later) = go (eqb (fault_at prior step) 0) refl (look (prior ++ (step ∷ [])) later)
  where
    go : (t : Bool) → eqb (fault_at prior step) 0 ≡ t → FirstFault (prior ++ (step ∷ [])) later → FirstFault prior (step ∷ later)
    go false z rest = inr (
      [],
      step,
      later,
      refl,
      (λ before x after e. absurd (omega (arith, ap length e, length-append before (x ∷ after)))),
      λ pass. eqb-false (fault_at prior step) 0 z (ap (λ (l : List Step). fault_at l step) (sym (append-nil prior)) ∙ pass),
    )
    go true z (inl pass) = inl (none_more prior step later (eqb-true _ 0 z) pass)
    go true z (inr (before, x, after, e, pass, fault)) = inr (
      step ∷ before,
      x,
      after,
      ap (λ (l : List Step). step ∷ l) e,
      none_more prior step before (eqb-true _ 0 z) pass,
      λ zero. fault (ap (λ (l : List Step). fault_at l x) (append_assoc prior (step ∷ []) before) ∙ zero),
    )

none_judged : (steps : List Step) → Faultless steps → NoneIn [] steps
none_judged steps pass before step after e = judged_only before step 0 (pass before step after e)

judged_none : (steps : List Step) → NoneIn [] steps → Faultless steps
judged_none steps pass before step after e = subst (Judged before step) (pass before step after e) (judged before step)

-- Exactly this number, this place and these steps.
module _ (s : List ℕ) where
  abbrev Answered : ℕ → Option ℕ → ℕ → Type 0
  Answered n place steps = ((reading s).number ≡ n) × ((reading s).place ≡ place) × (steps_taken s ≡ steps)

  answered : {n steps : ℕ} {place : Option ℕ} {fields : Option Segment} → reading s ≡ record { number = n; place = place; fields = fields }
      → steps_taken s ≡ steps → Answered n place steps
  answered e count = (ap (λ (a : Answer Segment). a.number) e, ap (λ (a : Answer Segment). a.place) e, count)

  early : (n : ℕ) → stands_in n (1 ∷ 2 ∷ 3 ∷ []) ≡ true → reading s ≡ refused n → Answered n none 0
  early n listed e = answered e (ap (λ (r : Report). r.steps) (no_steps s n listed e))

  pub given_only : (n : ℕ) (place : Option ℕ) (steps : ℕ) → Given s n place steps → Answered n place steps
  unfolding reading stands_in
  given_only n place steps (too_short h) = early 1 refl (below (length s) _ _ _ (omega (arith, h)))
  given_only n place steps (too_long h) = early 2 refl (not_below (length s) _ _ _ (omega (arith, h)) ∙ below _ (length s) _ _ (omega (arith, h)))
  given_only n place steps (offset_low long short h) =
      early 3 refl (not_below (length s) _ _ _ (omega (arith, long)) ∙ not_below _ (length s) _ _ (omega (arith, short))
      ∙ first_below (data_offset s) _ (length s) _ _ _ (omega (arith, h)))
  given_only n place steps (offset_past long short least h) =
      early 3 refl (not_below (length s) _ _ _ (omega (arith, long)) ∙ not_below _ (length s) _ _ (omega (arith, short))
      ∙ second_below (data_offset s) _ (length s) _ _ _ (omega (arith, least)) (omega (arith, h)))
  given_only n place steps (faulty p before step after m stands pass j given) =
      let clean = none_judged before pass in
      let wrong = judged_only before step n j in
      let fault = first_fault before step after n clean wrong given in
      let is = refused_if s p (record { number = n; place = step_place step }) (ap (fault_in []) stands ∙ fault.0) in
      let counted : steps_taken s ≡ length before + 1 =
      omega (arith, ap length (steps_if s p), ap length (ap (up_to_fault []) stands), ap length fault.1, length-append before (step ∷ [])) in
      let a = answered is counted in
      (a.0, a.1 ∙ ap some (place_counted s before step after stands), a.2)
  given_only n place steps (readable p pass) =
      let clean = no_fault (steps_of s) (none_judged (steps_of s) pass) in
      answered (read_if s p clean.0) (ap length (steps_if s p ∙ clean.1))

  -- some number, some place and some steps
  abbrev SomeGiven : Type 0
  SomeGiven = (n : ℕ) × (place : Option ℕ) × (steps : ℕ) × Given s n place steps

  -- a segment that E1, E2 and E3 let pass
  by_steps : Passed s → FirstFault [] (steps_of s) → SomeGiven
  unfolding FirstFault
  by_steps p (inl pass) = (0, none, length (steps_of s), readable p (judged_none (steps_of s) pass))
  by_steps p (inr (before, step, after, e, pass, given)) =
      let n : ℕ = fault_at before step in
      (n, some (20 + octets_in before), length before + 1, faulty p before step after n e (judged_none before pass) (judged before step) given)

  some_given : SomeGiven
  some_given = by_length (ltb (length s) 20) refl (ltb 65535 (length s)) refl
    where
      by_end : 20 ≤ length s → length s ≤ 65535 → 5 ≤ data_offset s → (t : Bool) → ltb (length s) (4 * data_offset s) ≡ t → SomeGiven
      by_end long short least true e = (3, none, 0, offset_past long short least (ltb-true _ _ e))
      by_end long short least false e =
          by_steps (record { long = long; short = short; offset_least = least; offset_most = ltb-false _ _ e }) (look [] (steps_of s))

      by_offset : 20 ≤ length s → length s ≤ 65535 → (t : Bool) → ltb (data_offset s) 5 ≡ t → SomeGiven
      by_offset long short true e = (3, none, 0, offset_low long short (ltb-true _ _ e))
      by_offset long short false e = by_end long short (ltb-false _ _ e) (ltb (length s) (4 * data_offset s)) refl

      by_length : (t : Bool) → ltb (length s) 20 ≡ t → (u : Bool) → ltb 65535 (length s) ≡ u → SomeGiven
      by_length true e u f = (1, none, 0, too_short (ltb-true _ _ e))
      by_length false e true f = (2, none, 0, too_long (ltb-true _ _ f))
      by_length false e false f = by_offset (ltb-false _ _ e) (ltb-false _ _ f) (ltb (data_offset s) 5) refl

  pub given : Given s (reading s).number (reading s).place (steps_taken s)
  given =
      let g = some_given in
      let same = given_only g.0 g.1 g.2 g.3 in
      subst (λ (n : ℕ). Given s n (reading s).place (steps_taken s)) (sym same.0)
      (subst (λ (place : Option ℕ). Given s g.0 place (steps_taken s)) (sym same.1)
      (subst (Given s g.0 g.1) (sym same.2) g.3))

  -- a segment is read exactly if E1, E2 and E3 let it pass and no step has a fault
  zero_only : (n : ℕ) (place : Option ℕ) (steps : ℕ) → Given s n place steps → n ≡ 0 → Faultless (steps_of s)
  zero_only n place steps (too_short h) z = absurd (omega arith)
  zero_only n place steps (too_long h) z = absurd (omega arith)
  zero_only n place steps (offset_low long short h) z = absurd (omega arith)
  zero_only n place steps (offset_past long short least h) z = absurd (omega arith)
  zero_only n place steps (faulty p before step after m stands pass j given) z = absurd (given z)
  zero_only n place steps (readable p pass) z = pass

  pub faultless : (reading s).number ≡ 0 → Faultless (steps_of s)
  faultless e = zero_only (reading s).number (reading s).place (steps_taken s) given e
