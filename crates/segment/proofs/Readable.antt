-- What is answered to a segment, by E1 to E3 and its options, and what holds of every segment that is read. Assumes nothing.
use mathlib.Core.Bool.{Bool, true, false, cond, ◌||◌}
use mathlib.Core.List.{List, [], ◌∷◌, ◌++◌}
use mathlib.Core.Option.{Option, none, some, Option-elim, some-injective, some-ne-none}
use mathlib.Core.Path.{◌≡◌, refl, sym, ap, subst, ◌∙◌}
use Prim.Native.Nat.{ℕ, ◌*◌, ◌≤◌, ◌<◌}
use native.Mathlib.Omega.{arith}
use lib.Dec.{eqb, ltb}
use lib.ListN.{get_or, length}
use Rattle.std.specs.Prelude.{Err}
use borrow.Author.Tests.{eqb-false, le-ltb, lt-ltb, ltb-false, ne_eqb}
use Rattle.laws.proofs.Choices.{neither}
use Rattle.segment.specs.Grammar.{Step, broken, end, nop, whole}
use Rattle.segment.specs.Options.{Fault, fault_at, fault_in, is_repeated, is_wrong_length, nothing, option_in, options_of, skipped_in, stands_in, step_place, up_to_fault}
use Rattle.segment.specs.Reading.{Answer, Report, counted_steps, data_offset, flags_of, found_option, matching, number_of, number_positive, options_read, read_as, reading, refused, refused_at, reported, segment_of, shown_answer, steps_of, steps_taken, with_fields}
use Rattle.segment.specs.Readable.{Readable}
use Rattle.segment.specs.declared.Flags.{Flags}
use Rattle.segment.specs.declared.Options.{Options}
use Rattle.segment.specs.declared.Refusal.{Refusal}
use Rattle.segment.specs.declared.Segment.{Segment}
use Rattle.segment.proofs.HeldBlocks.{held_few}

-- equal reports have equal answers
pub answer_is : {a b : Report} → a ≡ b → a.answer ≡ b.answer
answer_is e = ap (λ (r : Report). r.answer) e

-- what E1, E2 and E3 let pass
pub record Passed (s : List ℕ) : Type 0 where
  pub long : 20 ≤ length s
  pub short : length s ≤ 65535
  pub offset_least : 5 ≤ data_offset s
  pub offset_most : 4 * data_offset s ≤ length s

-- Of two answers, by a test of two numbers.
module _ {A : Type 0} where
  pub below : (a b : ℕ) (x y : A) → a < b → cond (ltb a b) x y ≡ x
  below a b x y h = simp (lt-ltb a b h)

  pub not_below : (a b : ℕ) (x y : A) → b ≤ a → cond (ltb a b) x y ≡ y
  not_below a b x y h = simp (le-ltb a b h)

  pub first_below : (a b c d : ℕ) (x y : A) → a < b → cond (ltb a b || ltb c d) x y ≡ x
  first_below a b c d x y h = simp (lt-ltb a b h)

  pub second_below : (a b c d : ℕ) (x y : A) → b ≤ a → c < d → cond (ltb a b || ltb c d) x y ≡ x
  second_below a b c d x y g h = simp (le-ltb a b g, lt-ltb c d h)

  pub neither_below : (a b c d : ℕ) (x y : A) → b ≤ a → d ≤ c → cond (ltb a b || ltb c d) x y ≡ y
  neither_below a b c d x y g h = simp (le-ltb a b g, le-ltb c d h)

-- it is answered by its options
module _ (s : List ℕ) (p : Passed s) where
  pub answered_by_options : reading s ≡ with_fields (segment_of s (4 * data_offset s) (skipped_in (steps_of s))) (options_read (steps_of s))
  unfolding reading
  answered_by_options =
      not_below (length s) _ _ _ (omega (arith, p.long))
      ∙ not_below _ (length s) _ _ (omega (arith, p.short))
      ∙ neither_below (data_offset s) _ (length s) _ _ _ (omega (arith, p.offset_least)) (omega (arith, p.offset_most))

  pub read_if : fault_in [] (steps_of s) ≡ none → reading s ≡ read_as (segment_of s (4 * data_offset s) (skipped_in (steps_of s)) (options_of (steps_of s)))
  unfolding options_read Option-elim
  read_if e = answered_by_options ∙ rw e

  pub refused_if : (fault : Fault) → fault_in [] (steps_of s) ≡ some fault → reading s ≡ refused_at fault
  unfolding options_read Option-elim
  refused_if fault e = answered_by_options ∙ rw e

-- Number 0 is no refusal, so each test that refuses has failed.
not_refused : {A : Type 0} (test : Bool) (n : ℕ) (rest : Answer A) → (n ≡ 0 → ⊥) → (cond test (refused n) rest).number ≡ 0
    → (test ≡ false) × (rest.number ≡ 0)
not_refused true n rest given e = absurd (given e)
not_refused false n rest given e = (refl, e)

-- a fault is E4, E5 or E6
fault_at_range : (before : List Step) (step : Step) → (fault_at before step ≡ 0 → ⊥) → (4 ≤ fault_at before step) × (fault_at before step ≤ 6)
unfolding fault_at
fault_at_range before (nop at) given = absurd (given refl)
fault_at_range before (end at) given = absurd (given refl)
fault_at_range before (broken at) given = (omega arith, omega arith)
fault_at_range before (whole at octets) given = go (is_wrong_length (get_or octets 0 0) (length octets)) (is_repeated before (get_or octets 0 0)) given
  where
    go : (t u : Bool) → (◌≡◌ {A = ℕ} (cond t 5 (cond u 6 0)) 0 → ⊥) → (4 ≤ cond t 5 (cond u 6 0)) × (cond t 5 (cond u 6 0) ≤ 6)
    go true u given = (omega arith, omega arith)
    go false true given = (omega arith, omega arith)
    go false false given = absurd (given refl)

pub fault_range : (before steps : List Step) (fault : Fault) → fault_in before steps ≡ some fault → (4 ≤ fault.number) × (fault.number ≤ 6)
unfolding fault_in
fault_range before [] fault e = absurd (some-ne-none fault (sym e))
fault_range before (step ∷ later) fault e = go (eqb (fault_at before step) 0) refl e (fault_range (before ++ (step ∷ [])) later fault)
  where
    go : (t : Bool) → eqb (fault_at before step) 0 ≡ t
        → cond t (fault_in (before ++ (step ∷ [])) later) (some (record { number = fault_at before step; place = step_place step })) ≡ some fault
        → (fault_in (before ++ (step ∷ [])) later ≡ some fault → (4 ≤ fault.number) × (fault.number ≤ 6)) → (4 ≤ fault.number) × (fault.number ≤ 6)
    go true z e rest = rest e
    go false z e rest =
        let same : fault_at before step ≡ fault.number = ap (λ (f : Fault). f.number) (some-injective _ _ e) in
        let range = fault_at_range before step (eqb-false _ 0 z) in
        (omega (arith, same, range.0), omega (arith, same, range.1))

-- without one the options are read
no_fault : (steps : List Step) → (options_read steps).number ≡ 0 → fault_in [] steps ≡ none
unfolding options_read Option-elim
no_fault steps e = go (fault_in [] steps) refl e
  where
    go : (f : Option Fault) → fault_in [] steps ≡ f → (Option-elim f (read_as (options_of steps)) refused_at).number ≡ 0 → fault_in [] steps ≡ none
    go none same n = same
    go (some fault) same n = absurd (omega (arith, (fault_range [] steps fault same).0, n))

-- E1, E2 and E3 take no step
pub no_steps : (s : List ℕ) (n : ℕ) → stands_in n (1 ∷ 2 ∷ 3 ∷ []) ≡ true → reading s ≡ refused n → reported s ≡ record { answer = refused n; steps = 0 }
unfolding counted_steps
no_steps s n early e = λ i. record { answer = e i; steps = none i }
  where
    none : steps_taken s ≡ 0
    none = rw e (simp early)

-- whatever else is answered, the steps up to and with the first fault count
pub steps_if : (s : List ℕ) → Passed s → counted_steps s ≡ up_to_fault [] (steps_of s)
unfolding counted_steps options_read Option-elim stands_in
steps_if s p = rw (answered_by_options s p) (go (fault_in [] (steps_of s)) refl)
  where
    go : (f : Option Fault) → fault_in [] (steps_of s) ≡ f
        → cond (stands_in (Option-elim f (read_as (options_of (steps_of s))) refused_at).number (1 ∷ 2 ∷ 3 ∷ [])) [] (up_to_fault [] (steps_of s))
        ≡ up_to_fault [] (steps_of s)
    go none same = refl
    go (some fault) same =
        let least = (fault_range [] (steps_of s) fault same).0 in
        simp (ne_eqb fault.number 1 (λ e. omega (arith, e)), ne_eqb fault.number 2 (λ e. omega (arith, e)), ne_eqb fault.number 3 (λ e. omega (arith, e)))

-- a segment with the number 0
module _ (s : List ℕ) (e : (reading s).number ≡ 0) where
  pub passed : Passed s
  unfolding reading
  passed =
      let long = not_refused (ltb (length s) 20) 1 _ (λ z. omega arith) e in
      let short = not_refused (ltb 65535 (length s)) 2 _ (λ z. omega arith) long.1 in
      let offset = not_refused (ltb (data_offset s) 5 || ltb (length s) (4 * data_offset s)) 3 _ (λ z. omega arith) short.1 in
      let tests = neither (ltb (data_offset s) 5) (ltb (length s) (4 * data_offset s)) offset.0 in
      record {
        long = ltb-false _ _ long.0;
        short = ltb-false _ _ short.0;
        offset_least = ltb-false _ _ tests.0;
        offset_most = ltb-false _ _ tests.1;
      }

  pub read_is : reading s ≡ read_as (segment_of s (4 * data_offset s) (skipped_in (steps_of s)) (options_of (steps_of s)))
  read_is =
      let options = ap (λ (a : Answer Segment). a.number) (answered_by_options s passed) in
      read_if s passed (no_fault (steps_of s) (sym options ∙ e))

flag_most : (flag : Bool) → cond flag 1 0 ≤ 1
flag_most true = omega arith
flag_most false = omega arith

-- what holds of the fields, whatever the options are
module _ (s : List ℕ) (end skipped : ℕ) (options : Options) (short : length s ≤ 65535) (least : 20 ≤ end) (most : end ≤ length s) where
  fields_readable : Readable s (segment_of s end skipped options)
  unfolding segment_of
  fields_readable =
      let flags : Flags = flags_of (get_or s 13 0) in
      record {
        long = omega arith;
        short = short;
        start_least = least;
        start_most = most;
        payload_rest = omega arith;
        len_is = refl;
        len_most = omega (arith, flag_most flags.syn, flag_most flags.fin);
        blocks_most = held_few options.blocks;
      }

-- a segment that is read
module _ (s : List ℕ) (w : Segment) (e : reading s ≡ read_as w) where
  zero_number : (reading s).number ≡ 0
  zero_number = ap (λ (a : Answer Segment). a.number) e

  pub fields_are : w ≡ segment_of s (4 * data_offset s) (skipped_in (steps_of s)) (options_of (steps_of s))
  fields_are = some-injective _ _ (ap (λ (a : Answer Segment). a.fields) (sym e ∙ read_is s zero_number))

  pub start_is : w.payload.start ≡ 4 * data_offset s
  unfolding segment_of
  start_is = ap (λ (x : Segment). x.payload.start) fields_are

  pub readable : Readable s w
  readable =
      let p = passed s zero_number in
      subst (Readable s) (sym fields_are)
      (fields_readable s (4 * data_offset s) _ _ p.short (omega (arith, p.offset_least)) p.offset_most)

-- An option is found in what is read, and none in what is refused.
module _ (s kinds : List ℕ) where
  by_number : (a : Answer Segment) → reading s ≡ a → found_option s kinds ≡ cond (eqb a.number 0) (option_in (matching kinds) (steps_of s)) nothing
  unfolding found_option
  by_number a e = ap (λ (x : Answer Segment). cond (eqb x.number 0) (option_in (matching kinds) (steps_of s)) nothing) e

  pub found_none : (why : Refusal) → reading s ≡ shown_answer (Err why) → found_option s kinds ≡ nothing
  found_none why e = by_number _ e ∙ simp (ne_eqb (number_of why) 0 (λ z. omega (arith, number_positive why, z)))

  pub found_some : (w : Segment) → reading s ≡ read_as w → found_option s kinds ≡ option_in (matching kinds) (steps_of s)
  found_some w e = by_number (read_as w) e
