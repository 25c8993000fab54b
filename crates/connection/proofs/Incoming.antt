-- A segment that reads opens and arrives by its fields, whether it comes in as octets or was read before; and what holds of the record of
-- every opening, and after every arrival. Assumes nothing.
use mathlib.Core.Bool.{cond}
use mathlib.Core.List.{List}
use mathlib.Core.Option.{Option, none, some, Option-elim}
use mathlib.Core.Path.{◌≡◌, refl, ap, subst}
use Prim.Native.Nat.{ℕ}
use lib.Dec.{eqb, ltb}
use borrow.Author.Tests.{eqb-true}
use Rattle.laws.proofs.Choices.{either, if_some_is}
use Rattle.offers.specs.declared.Offers.{Offers}
use Rattle.segment.specs.Reading.{reading}
use Rattle.segment.specs.declared.Segment.{Segment}
use Rattle.connection.specs.declared.Connection.{Connection}
use Rattle.connection.specs.declared.Setup.{Setup}
use Rattle.connection.specs.Numbers.{refuse}
use Rattle.connection.specs.Record.{blank}
use Rattle.connection.specs.Opening.{OpeningAnswer, exceeds_limits, is_not_syn, is_wrong_ack, opening, opening_from, opening_read, record_from, refused_opening}
use Rattle.connection.specs.Profile.{Profiled, as_opened, lack_in, lacking, profile_opening, profile_opening_read, under_profile}
use Rattle.connection.specs.Verdict.{decided, rows}
use Rattle.connection.specs.Taking.{record_after}
use Rattle.connection.specs.Arriving.{Arrival, arriving, arriving_read, is_take, judged, not_taken, refusing, settled, taken_by, unchanged}
use Rattle.connection.specs.Calls.{Incoming, Opened, Way, arrived, fields_of, opened_by, opened_under, plain, profile, profiled_by, read, unread}

pub opened_by_fields : (own : Setup) (clock : ℕ) (i : Incoming) (s : Segment) → fields_of i ≡ some s
    → opened_by own clock i ≡ opening_read own clock s
unfolding opening opening_read Option-elim
opened_by_fields own clock (unread octets) s is =
    let by : Option Segment → OpeningAnswer = λ o. Option-elim o (refused_opening (reading octets).number (reading octets).place) (opening_from own clock) in
    ap (λ o. cond (exceeds_limits own) (refused_opening 9 none) (by o)) is
opened_by_fields own clock (read x) s is = ap (λ o. opening_read own clock (Option-elim o x (λ y. y))) is

pub profiled_by_fields : (own : Setup) (clock : ℕ) (i : Incoming) (s : Segment) → fields_of i ≡ some s
    → profiled_by own clock i ≡ under_profile own.offers (opened_by own clock i) s
unfolding profile_opening profile_opening_read Option-elim
profiled_by_fields own clock (unread octets) s is =
    let a = opening own clock octets in
    ap (λ o. Option-elim o (as_opened a) (under_profile own.offers a)) is
profiled_by_fields own clock (read x) s is =
    ap (λ o. under_profile own.offers (opening_read own clock x) (Option-elim o x (λ y. y))) is

pub arrived_by_fields : (k : Connection) (clock : ℕ) (i : Incoming) (s : Segment) → fields_of i ≡ some s
    → arrived k clock i ≡ arriving_read k clock s
unfolding arriving Option-elim
arrived_by_fields k clock (unread octets) s is =
    ap (λ o. Option-elim o (refusing k (reading octets).number (reading octets).place) (arriving_read k clock)) is
arrived_by_fields k clock (read x) s is = ap (λ o. arriving_read k clock (Option-elim o x (λ y. y))) is

-- octets that do not read are refused by reading's number and place, whatever the clock, and leave the record
pub unreadable_refused : (k : Connection) (clock : ℕ) (octets : List ℕ) → (reading octets).fields ≡ none
    → arriving k clock octets ≡ unchanged k (record { number = (reading octets).number; action = refuse }) (reading octets).place none
unfolding arriving Option-elim
unreadable_refused k clock octets is = rw is

-- under the profile the answer is that of the opening without it, or E17 where that opens and something is lacking
under_cases : (P : Profiled → Type 0) (own : Offers) (a : OpeningAnswer) (syn : Segment) → P (as_opened a)
    → (a.number ≡ 0 → (n : ℕ) → lack_in own syn ≡ some n → P (lacking n)) → P (under_profile own a syn)
unfolding under_profile
under_cases P own a syn stays lacks =
    either P (eqb a.number 0) _ _ (λ opens. if_some_is P (lack_in own syn) _ lacking stays (lacks (eqb-true _ 0 opens))) (λ _. stays)

pub profiled_cases : (P : Profiled → Type 0) (own : Setup) (clock : ℕ) (i : Incoming) → P (as_opened (opened_by own clock i))
    → ((opened_by own clock i).number ≡ 0 → (syn : Segment) → fields_of i ≡ some syn → (n : ℕ) → lack_in own.offers syn ≡ some n → P (lacking n))
    → P (profiled_by own clock i)
unfolding profile_opening profile_opening_read
profiled_cases P own clock (unread octets) stays lacks =
    if_some_is P (reading octets).fields _ _ stays (λ syn is. under_cases P own.offers _ syn stays (λ opens. lacks opens syn is))
profiled_cases P own clock (read syn) stays lacks = under_cases P own.offers _ syn stays (λ opens. lacks opens syn refl)

-- what holds of the blank record, and of the one that the SYN opens, holds of the record that an opening gives
module _ (P : Connection → Type 0) (blank_holds : P blank) (own : Setup) (clock : ℕ) where
  abbrev Gives : OpeningAnswer → Type 0
  Gives a = P a.connection

  from_cases : (syn : Segment) → P (record_from own clock syn) → Gives (opening_from own clock syn)
  unfolding opening_from
  from_cases syn holds =
      either Gives (is_not_syn syn) _ _ (λ _. blank_holds)
      (λ _. either Gives (is_wrong_ack own.iss.0 syn) _ _ (λ _. blank_holds) (λ _. holds))

  pub opening_cases : (i : Incoming) → ((syn : Segment) → fields_of i ≡ some syn → P (record_from own clock syn)) → Gives (opened_by own clock i)
  unfolding opening opening_read
  opening_cases (unread octets) holds =
      either Gives (exceeds_limits own) _ _ (λ _. blank_holds)
      (λ _. if_some_is Gives (reading octets).fields _ (opening_from own clock) blank_holds (λ syn is. from_cases syn (holds syn is)))
  opening_cases (read syn) holds = either Gives (exceeds_limits own) _ _ (λ _. blank_holds) (λ _. from_cases syn (holds syn refl))

  pub way_cases : (way : Way) (i : Incoming) → ((syn : Segment) → fields_of i ≡ some syn → P (record_from own clock syn)) → Gives (opened_under way own clock i)
  way_cases plain i holds = opening_cases i holds
  way_cases profile i holds =
      profiled_cases (λ a. Gives a.opening) own clock i (opening_cases i holds) (λ _ _ _ _ _. blank_holds)

-- each way is what its two functions promise
pub ways_are : (own : Setup) (clock : ℕ) (i : Incoming) (octets : List ℕ) (syn : Segment)
    → (opened_under plain own clock (unread octets) ≡ opening own clock octets) × (opened_under plain own clock (read syn) ≡ opening_read own clock syn)
    × (opened_under profile own clock i ≡ (profiled_by own clock i).opening)
    × (profiled_by own clock (unread octets) ≡ profile_opening own clock octets) × (profiled_by own clock (read syn) ≡ profile_opening_read own clock syn)
ways_are own clock i octets syn = (refl, refl, refl, refl, refl)

-- the record of any opening, by either way, counts as freshly opened; what holds of the blank record and of one that a SYN opens holds of it
pub opened_any : (way : Way) (own : Setup) (clock : ℕ) (i : Incoming) → Opened (opened_under way own clock i).connection
opened_any way own clock i = record { way = way; own = own; clock = clock; syn = i; opens = refl }

pub opened_holds : (P : Connection → Type 0) → P blank → (k : Connection) (o : Opened k)
    → ((syn : Segment) → fields_of o.syn ≡ some syn → P (record_from o.own o.clock syn)) → P k
opened_holds P blank_holds k o holds = subst P o.opens (way_cases P blank_holds o.own o.clock o.way o.syn holds)

-- what holds of a record, and of it after the segment is taken, holds of it after the segment's arrival
module _ (P : Connection → Type 0) (k : Connection) (holds : P k) (clock : ℕ) where
  abbrev Leaves : Arrival → Type 0
  Leaves a = P a.connection

  read_cases : (s : Segment) → P (record_after k clock s) → Leaves (arriving_read k clock s)
  unfolding arriving_read judged settled taken_by
  read_cases s take_holds =
      let decision = decided (rows k clock s) in
      either Leaves (ltb clock k.timestamping.since) (refusing k 8 none) (judged k clock s) (λ _. holds)
      (λ _. either Leaves (is_take decision.action) (taken_by k clock s) (not_taken k s decision) (λ _. take_holds) (λ _. holds))

  pub arrived_cases : (i : Incoming) → ((s : Segment) → fields_of i ≡ some s → P (record_after k clock s)) → Leaves (arrived k clock i)
  unfolding arriving
  arrived_cases (unread octets) take_holds =
      if_some_is Leaves (reading octets).fields _ (arriving_read k clock) holds (λ s is. read_cases s (take_holds s is))
  arrived_cases (read s) take_holds = read_cases s (take_holds s refl)
