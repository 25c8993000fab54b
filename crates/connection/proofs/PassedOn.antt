-- What an opening and an arrival pass on of the options' reading, in document 02's words (P6): "The opening and the verdict pass this on, the
-- count with an opened record and with every verdict", and "Every other refusal still returns its number alone". Assumes nothing.
use mathlib.Core.Bool.{Bool, true, false, false≢true}
use mathlib.Core.List.{List, [], ◌∷◌}
use mathlib.Core.Option.{Option, none, some, Option-elim, some-injective, some-ne-none}
use mathlib.Core.Path.{◌≡◌, refl, sym, ap, subst, ◌∙◌}
use Prim.Native.Nat.{ℕ, ◌≤◌, ◌<◌}
use native.Mathlib.Omega.{arith}
use lib.Dec.{eqb, ltb}
use lib.ListN.{get_or}
use borrow.Author.Tests.{eqb-false, eqb-true}
use Rattle.std.specs.Prelude.{Result, Ok, Err}
use Rattle.laws.specs.Lists.{any}
use Rattle.laws.proofs.Choices.{either, neither}
use Rattle.offers.specs.Offers.{exceed_limits}
use Rattle.segment.specs.Reading.{Answer, fault_place, reading, steps_of}
use Rattle.segment.specs.declared.Refusal.{Refusal}
use Rattle.segment.specs.declared.Segment.{Segment}
use Rattle.segment.proofs.KindAtFault.{FaultThere, fault_there}
use Rattle.segment.proofs.Refused.{read_whole}
use Rattle.segment.proofs.Skipped.{Unknown, at_most_twenty, unknown_skipped}
use Rattle.connection.specs.declared.Arrival as declared
use Rattle.connection.specs.declared.ArriveRefusal.{ArriveRefusal}
use Rattle.connection.specs.declared.Connection.{Connection}
use Rattle.connection.specs.declared.OpenRefusal.{OpenRefusal}
use Rattle.connection.specs.declared.Setup.{Setup}
use Rattle.connection.specs.Numbers.{Action, Decision, arrival_number, drop_silent, drop_with_ack, refuse, reset, take}
use Rattle.connection.specs.Opening.{OpeningAnswer, exceeds_limits, is_not_syn, is_wrong_ack, opening, opening_from, opening_read, refused_opening, shown_open}
use Rattle.connection.specs.Verdict.{Row, decided, rows}
use Rattle.connection.specs.Arriving.{Arrival, arriving, arriving_read, is_take, judged, not_taken, refusing, settled, shown, taken_by}
use Rattle.connection.specs.Calls.{Incoming, arrived, fields_of, opened_by, read, unread}
use Rattle.connection.proofs.Incoming.{arrived_by_fields, opened_by_fields, unreadable_refused}
use Rattle.connection.proofs.Openings.{unreadable_not_opened}

-- by whether octets read, and by a test
by_fields : {P : Type 0} (fields : Option Segment) → (fields ≡ none → P) → ((s : Segment) → fields ≡ some s → P) → P
by_fields none lacks reads = lacks refl
by_fields (some s) lacks reads = reads s refl

by_test : {P : Type 0} (t : Bool) → (t ≡ true → P) → (t ≡ false → P) → P
by_test true holds fails = holds refl
by_test false holds fails = fails refl

-- the place that reading gives; a segment that was read before has none
abbrev pub place_in : Incoming → Option ℕ
place_in (unread octets) = (reading octets).place
place_in (read s) = none

-- what reads has no place
read_no_place : (i : Incoming) (s : Segment) → fields_of i ≡ some s → place_in i ≡ none
read_no_place (unread octets) s is = ap (λ (a : Answer Segment). a.place) (read_whole octets s is)
read_no_place (read s) t is = refl

abbrev is_refusal : Action → Bool
is_refusal refuse = true
is_refusal take = false
is_refusal reset = false
is_refusal drop_silent = false
is_refusal drop_with_ack = false

-- a table without a row that refuses decides on a verdict
decided_verdict : (table : List Row) → any (λ r. is_refusal r.action) table ≡ false → is_refusal (decided table).action ≡ false
decided_verdict [] e = refl
decided_verdict (r ∷ rs) e =
    let tests = neither (is_refusal r.action) _ e in
    either (λ (d : Decision). is_refusal d.action ≡ false) r.holds _ (decided rs) (λ _. tests.0) (λ _. decided_verdict rs tests.1)

table_verdict : (k : Connection) (clock : ℕ) (s : Segment) → is_refusal (decided (rows k clock s)).action ≡ false
unfolding rows
table_verdict k clock s = decided_verdict (rows k clock s) refl

-- of a segment that reads: no place, the count with a verdict, and nothing with a refusal
record Passes (s : Segment) (a : Arrival) : Type 0 where
  no_place : a.place ≡ none
  with_verdict : is_refusal a.decision.action ≡ false → a.skipped ≡ some s.skipped
  with_refusal : is_refusal a.decision.action ≡ true → a.skipped ≡ none

module _ (k : Connection) (clock : ℕ) where
  settled_passes : (s : Segment) (d : Decision) → is_refusal d.action ≡ false → Passes s (settled k clock s d)
  unfolding settled taken_by
  settled_passes s d verdict =
      either (Passes s) (is_take d.action) (taken_by k clock s) (not_taken k s d)
      (λ _. record { no_place = refl; with_verdict = λ _. refl; with_refusal = λ e. absurd (false≢true e) })
      (λ _. record { no_place = refl; with_verdict = λ _. refl; with_refusal = λ e. absurd (false≢true (sym verdict ∙ e)) })

  read_passes : (s : Segment) → Passes s (arriving_read k clock s)
  unfolding arriving_read judged
  read_passes s =
      either (Passes s) (ltb clock k.timestamping.since) (refusing k 8 none) (judged k clock s)
      (λ _. record { no_place = refl; with_verdict = λ e. absurd (false≢true (sym e)); with_refusal = λ _. refl })
      (λ _. settled_passes s (decided (rows k clock s)) (table_verdict k clock s))

  passes : (i : Incoming) (s : Segment) → fields_of i ≡ some s → Passes s (arrived k clock i)
  passes i s is = subst (Passes s) (sym (arrived_by_fields k clock i s is)) (read_passes s)

  -- the place is reading's
  pub place_passed : (i : Incoming) → (arrived k clock i).place ≡ place_in i
  place_passed (read s) = (read_passes s).no_place
  place_passed (unread octets) =
      by_fields (reading octets).fields (λ is. ap (λ (a : Arrival). a.place) (unreadable_refused k clock octets is))
      (λ s is. (passes (unread octets) s is).no_place ∙ sym (read_no_place (unread octets) s is))

  -- the count comes with every verdict
  pub verdict_skips : (i : Incoming) (s : Segment) → fields_of i ≡ some s → ((arrived k clock i).decision.action ≡ refuse → ⊥)
      → (arrived k clock i).skipped ≡ some s.skipped
  verdict_skips i s is verdict = (passes i s is).with_verdict (not_refusal _ verdict)
    where
      not_refusal : (a : Action) → (a ≡ refuse → ⊥) → is_refusal a ≡ false
      not_refusal refuse other = absurd (other refl)
      not_refusal take other = refl
      not_refusal reset other = refl
      not_refusal drop_silent other = refl
      not_refusal drop_with_ack other = refl

  -- and with no refusal
  pub refusal_skips_none : (i : Incoming) → (arrived k clock i).decision.action ≡ refuse → (arrived k clock i).skipped ≡ none
  refusal_skips_none (read s) refuses = (read_passes s).with_refusal (ap is_refusal refuses)
  refusal_skips_none (unread octets) refuses =
      by_fields (reading octets).fields (λ is. ap (λ (a : Arrival). a.skipped) (unreadable_refused k clock octets is))
      (λ s is. (passes (unread octets) s is).with_refusal (ap is_refusal refuses))

-- the same of an opening
record OpensPassing (syn : Segment) (a : OpeningAnswer) : Type 0 where
  no_place : a.place ≡ none
  with_record : a.number ≡ 0 → a.skipped ≡ some syn.skipped
  with_refusal : (a.number ≡ 0 → ⊥) → a.skipped ≡ none

module _ (own : Setup) (clock : ℕ) where
  refused_has_none : (syn : Segment) (n : ℕ) → (n ≡ 0 → ⊥) → OpensPassing syn (refused_opening n none)
  refused_has_none syn n refuses = record { no_place = refl; with_record = λ e. absurd (refuses e); with_refusal = λ _. refl }

  from_passes : (syn : Segment) → OpensPassing syn (opening_from own clock syn)
  unfolding opening_from
  from_passes syn =
      either (OpensPassing syn) (is_not_syn syn) _ _ (λ _. refused_has_none syn 10 (λ e. omega arith))
      (λ _. either (OpensPassing syn) (is_wrong_ack own.iss.0 syn) _ _ (λ _. refused_has_none syn 11 (λ e. omega arith))
      (λ _. record { no_place = refl; with_record = λ _. refl; with_refusal = λ e. absurd (e refl) }))

  opens_passes : (i : Incoming) (syn : Segment) → fields_of i ≡ some syn → OpensPassing syn (opened_by own clock i)
  unfolding opening_read
  opens_passes i syn is =
      subst (OpensPassing syn) (sym (opened_by_fields own clock i syn is))
      (either (OpensPassing syn) (exceeds_limits own) _ _ (λ _. refused_has_none syn 9 (λ e. omega arith)) (λ _. from_passes syn))

  -- the place is reading's, but E9 comes before reading
  pub limits_no_place : (i : Incoming) → exceed_limits own.offers own.window ≡ true → (opened_by own clock i).place ≡ none
  unfolding opening opening_read
  limits_no_place (unread octets) exceeds = rw exceeds refl
  limits_no_place (read syn) exceeds = rw exceeds refl

  pub place_opened : (i : Incoming) → exceed_limits own.offers own.window ≡ false → (opened_by own clock i).place ≡ place_in i
  unfolding opening Option-elim
  place_opened (read syn) within = (opens_passes (read syn) syn refl).no_place
  place_opened (unread octets) within =
      by_fields (reading octets).fields (λ is. rw (within, is) refl)
      (λ syn is. (opens_passes (unread octets) syn is).no_place ∙ sym (read_no_place (unread octets) syn is))

  -- the count comes with an opened record, and with no refusal
  pub opened_skips : (i : Incoming) (syn : Segment) → fields_of i ≡ some syn → (opened_by own clock i).number ≡ 0
      → (opened_by own clock i).skipped ≡ some syn.skipped
  opened_skips i syn is opens = (opens_passes i syn is).with_record opens

  unread_skips_none : (octets : List ℕ) → (reading octets).fields ≡ none → (opening own clock octets).skipped ≡ none
  unfolding opening Option-elim
  unread_skips_none octets is =
      rw is (either (λ (a : OpeningAnswer). a.skipped ≡ none) (exceeds_limits own) _ _ (λ _. refl) (λ _. refl))

  pub refused_skips_none : (i : Incoming) → ((opened_by own clock i).number ≡ 0 → ⊥) → (opened_by own clock i).skipped ≡ none
  refused_skips_none (read syn) refuses = (opens_passes (read syn) syn refl).with_refusal refuses
  refused_skips_none (unread octets) refuses =
      by_fields (reading octets).fields (unread_skips_none octets) (λ syn is. (opens_passes (unread octets) syn is).with_refusal refuses)

-- so many unknown options stand in the octets, at most 20
pub record Counts (octets : List ℕ) (n : ℕ) : Type 0 where
  pub unknown : Unknown (steps_of octets) n
  pub most : get_or octets 12 0 < 256 → n ≤ 20

-- Of octets that arrive or open: what comes with the answer is the place of the kind octet at fault, or the count of the unknown options.
module _ (octets : List ℕ) where
  counts : (s : Segment) (skipped : Option ℕ) (n : ℕ) → (reading octets).fields ≡ some s → skipped ≡ some s.skipped → skipped ≡ some n → Counts octets n
  counts s skipped n is counted e =
      let reads = read_whole octets s is in
      subst (Counts octets) (some-injective _ _ (sym counted ∙ e))
      (record { unknown = unknown_skipped octets s reads; most = at_most_twenty octets s reads })

  -- a place that reading gives comes with reading's number
  unread_fields : (place : ℕ) → (reading octets).place ≡ some place → (reading octets).fields ≡ none
  unread_fields place e =
      by_fields (reading octets).fields (λ is. is) (λ s is. absurd (some-ne-none place (sym e ∙ read_no_place (unread octets) s is)))

  module _ (k : Connection) (clock : ℕ) where
    pub arrival_fault : (place : ℕ) → (arriving k clock octets).place ≡ some place → FaultThere octets (arriving k clock octets).decision.number place
    arrival_fault place e =
        let given = sym (place_passed k clock (unread octets)) ∙ e in
        let refuses = unreadable_refused k clock octets (unread_fields place given) in
        subst (λ (n : ℕ). FaultThere octets n place) (sym (ap (λ (a : Arrival). a.decision.number) refuses)) (fault_there octets place given)

    pub arrival_counts : (n : ℕ) → (arriving k clock octets).skipped ≡ some n → Counts octets n
    arrival_counts n e =
        by_fields (reading octets).fields
        (λ is. absurd (some-ne-none n (sym e ∙ ap (λ (a : Arrival). a.skipped) (unreadable_refused k clock octets is))))
        (λ s is.
        let passed = passes k clock (unread octets) s is in
        by_test (is_refusal (arriving k clock octets).decision.action) (λ refuses. absurd (some-ne-none n (sym e ∙ passed.with_refusal refuses)))
        (λ verdict. counts s _ n is (passed.with_verdict verdict) e))

  module _ (own : Setup) (clock : ℕ) where
    pub opening_fault : (place : ℕ) → (opening own clock octets).place ≡ some place → FaultThere octets (opening own clock octets).number place
    opening_fault place e =
        by_test (exceed_limits own.offers own.window)
        (λ exceeds. absurd (some-ne-none place (sym e ∙ limits_no_place own clock (unread octets) exceeds)))
        (λ within.
        let given = sym (place_opened own clock (unread octets) within) ∙ e in
        let refuses = unreadable_not_opened own clock within octets (unread_fields place given) in
        subst (λ (n : ℕ). FaultThere octets n place) (sym refuses) (fault_there octets place given))

    pub opening_counts : (n : ℕ) → (opening own clock octets).skipped ≡ some n → Counts octets n
    opening_counts n e =
        by_test (eqb (opening own clock octets).number 0)
        (λ opens.
        by_fields (reading octets).fields (λ is. absurd (some-ne-none n (sym e ∙ unread_skips_none own clock octets is)))
        (λ syn is. counts syn _ n is (opened_skips own clock (unread octets) syn is (eqb-true _ 0 opens)) e))
        (λ refuses. absurd (some-ne-none n (sym e ∙ refused_skips_none own clock (unread octets) (eqb-false _ 0 refuses))))

-- Each case that the code answers with holds the count, or the refusal with its place, as it is.
pub opened_holds : (k : Connection) (skipped : ℕ) → (shown_open (Ok (record { connection = k; skipped = skipped }))).skipped ≡ some skipped
opened_holds k skipped = refl

pub judged_holds : (k : Connection) (a : declared.Arrival) → (shown k (Ok a)).skipped ≡ some a.skipped
judged_holds k a = refl

pub refusal_holds : (k : Connection) (why : Refusal) → ((shown_open (Err (OpenRefusal.Segment why))).place ≡ fault_place why)
    × ((shown k (Err (ArriveRefusal.Segment why))).place ≡ fault_place why)
refusal_holds k why = (refl, refl)

-- the number of an answer is that of its decision, whatever record was passed
pub number_decided : (k : Connection) (answer : Result declared.Arrival ArriveRefusal) → arrival_number answer ≡ (shown k answer).decision.number
number_decided k (Ok arrival) = refl
number_decided k (Err why) = refl
