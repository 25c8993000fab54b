-- Any list of calls on a record that is freshly opened, and the calls that these make on its timer.
use Rattle.std.specs.Prelude.{cond, List, [], ◌∷◌, ◌++◌, ◌≡◌, ℕ}
use Rattle.std.proofs.Math.Option.{Option, some, Option-elim}
use Rattle.rto.specs.Calls as rto
use Rattle.segment.specs.Reading.{reading}
use Rattle.segment.specs.declared.Segment.{Segment}
use Rattle.connection.specs.declared.Connection.{Connection}
use Rattle.connection.specs.declared.Setup.{Setup}
use Rattle.connection.specs.Opening.{OpeningAnswer, opening, opening_read}
use Rattle.connection.specs.Profile.{Profiled, profile_opening, profile_opening_read}
use Rattle.connection.specs.Taking.{fed_by}
use Rattle.connection.specs.Arriving.{Arrival, arriving, arriving_read, is_take}
use Rattle.connection.specs.Operations.{acknowledged, expired, sent, window_opened}

-- a segment as it comes in: its octets, or its fields where it was read before
pub data Incoming : Type 0 where
  unread : List ℕ → Incoming
  read : Segment → Incoming

abbrev pub fields_of : Incoming → Option Segment
fields_of (unread octets) = (reading octets).fields
fields_of (read s) = some s

abbrev pub opened_by : Setup → ℕ → Incoming → OpeningAnswer
opened_by own clock (unread octets) = opening own clock octets
opened_by own clock (read syn) = opening_read own clock syn

abbrev pub profiled_by : Setup → ℕ → Incoming → Profiled
profiled_by own clock (unread octets) = profile_opening own clock octets
profiled_by own clock (read syn) = profile_opening_read own clock syn

-- the ways of opening: with no demands beside document 01's, and under the field-station profile
pub data Way : Type 0 where
  plain profile : Way

abbrev pub opened_under : Way → Setup → ℕ → Incoming → OpeningAnswer
opened_under plain own clock syn = opened_by own clock syn
opened_under profile own clock syn = (profiled_by own clock syn).opening

abbrev pub arrived : Connection → ℕ → Incoming → Arrival
arrived k clock (unread octets) = arriving k clock octets
arrived k clock (read s) = arriving_read k clock s

-- a record that an opening gave, by either way, also the blank one that a refused opening gives
pub record Opened (k : Connection) : Type 0 where
  pub way : Way
  pub own : Setup
  pub clock : ℕ
  pub syn : Incoming
  pub opens : (opened_under way own clock syn).connection ≡ k

-- a segment at a clock, octets sent, a new receive window, an expiry, an acknowledgment written. An acknowledgment that is refused leaves
-- the record, so a list of calls need not have it.
pub data Call : Type 0 where
  arrival : ℕ → Incoming → Call
  sending : ℕ → Call
  window : ℕ → Call
  expiry : Call
  acknowledgment : Call

abbrev pub called : Connection → Call → Connection
called k (arrival clock s) = (arrived k clock s).connection
called k (sending n) = (sent k n).connection
called k (window n) = (window_opened k n).connection
called k expiry = expired k
called k acknowledgment = acknowledged k

-- each call gets the record as the last left it
abbrev pub run : Connection → List Call → Connection
run k [] = k
run k (c ∷ cs) = run (called k c) cs

-- the records after each call, in their order
abbrev pub records_after : Connection → List Call → List Connection
records_after k [] = []
records_after k (c ∷ cs) = called k c ∷ records_after (called k c) cs

-- what an arrival feeds to the timer: the sample of a segment that is taken
abbrev pub fed : Connection → ℕ → Incoming → List rto.Call
fed k clock s = cond (is_take (arrived k clock s).decision.action) (Option-elim (fields_of s) [] (fed_by k clock)) []

abbrev pub timer_call : Connection → Call → List rto.Call
timer_call k (arrival clock s) = fed k clock s
timer_call k (sending n) = []
timer_call k (window n) = []
timer_call k expiry = rto.expiry ∷ []
timer_call k acknowledgment = []

abbrev pub timer_calls : Connection → List Call → List rto.Call
timer_calls k [] = []
timer_calls k (c ∷ cs) = timer_call k c ++ timer_calls (called k c) cs
