-- An arriving segment: E1 to E6, E8, the verdict, and what a take does. Only take changes the record (house).
use Rattle.std.specs.Prelude.{Bool, true, false, cond, List, [], ℕ, ltb, Result, Ok, Err}
use Rattle.std.proofs.Math.Option.{Option, none, some, Option-elim}
use Rattle.serial.specs.declared.Range.{Range}
use Rattle.receive.specs.Window.{fin_inside, new_part}
use Rattle.receive.specs.declared.Part.{Part}
use Rattle.segment.specs.Reading.{reading}
use Rattle.segment.specs.SackBlocks.{held}
use Rattle.segment.specs.declared.Segment.{Segment}
use Rattle.connection.specs.declared.Arrival as declared
use Rattle.connection.specs.declared.ArriveRefusal.{ArriveRefusal}
use Rattle.connection.specs.declared.Connection.{Connection}
use Rattle.connection.specs.Numbers.{Action, Decision, arrive_refusal_number, arrive_refusal_place, drop_silent, drop_with_ack, refuse, reset, take, verdict_of}
use Rattle.connection.specs.Verdict.{decided, rows}
use Rattle.connection.specs.Taking.{listed, record_after}

-- the answer to an arriving segment in document 01's terms: its number and what is done with the segment, with E4, E5 and E6 the place in it
-- of the kind octet at fault, with a verdict how many unknown options were skipped, the new part and whether FIN lies in it, the peer's SACK
-- blocks that are listed, and the record afterwards
pub record Arrival : Type 0 where
  pub decision : Decision
  pub place : Option ℕ
  pub skipped : Option ℕ
  pub part : Part
  pub fin : Bool
  pub blocks : List Range
  pub connection : Connection

abbrev pub unchanged : Connection → Decision → Option ℕ → Option ℕ → Arrival
unchanged k d place skipped = record {
  decision = d;
  place = place;
  skipped = skipped;
  part = record { from = 0; to = 0 };
  fin = false;
  blocks = [];
  connection = k;
}

-- a refusal's number, and the place if there is one
abbrev pub refusing : Connection → ℕ → Option ℕ → Arrival
refusing k number place = unchanged k (record { number = number; action = refuse }) place none

-- a verdict other than take, with how many unknown options were skipped
abbrev pub not_taken : Connection → Segment → Decision → Arrival
not_taken k s d = unchanged k d none (some s.skipped)

unfoldable pub taken_by : Connection → ℕ → Segment → Arrival
taken_by k clock s = record {
  decision = record { number = 0; action = take };
  place = none;
  skipped = some s.skipped;
  part = new_part k.receive s.seq.0 s.len;
  fin = fin_inside k.receive s.seq.0 s.len s.flags.fin;
  blocks = listed (record_after k clock s) s;
  connection = record_after k clock s;
}

abbrev pub is_take : Action → Bool
is_take take = true
is_take reset = false
is_take drop_silent = false
is_take drop_with_ack = false
is_take refuse = false

-- only take changes the record
unfoldable pub settled : Connection → ℕ → Segment → Decision → Arrival
settled k clock s d = cond (is_take d.action) (taken_by k clock s) (not_taken k s d)

unfoldable pub judged : Connection → ℕ → Segment → Arrival
judged k clock s = settled k clock s (decided (rows k clock s))

-- E8: clock below the time at which TS.Recent was last set
unfoldable pub arriving_read : Connection → ℕ → Segment → Arrival
arriving_read k clock s = cond (ltb clock k.timestamping.since) (refusing k 8 none) (judged k clock s)

-- E1 to E6, then E8, then the table
unfoldable pub arriving : Connection → ℕ → List ℕ → Arrival
arriving k clock octets =
    Option-elim (reading octets).fields (refusing k (reading octets).number (reading octets).place) (arriving_read k clock)

-- the same of what the code answers to a record
abbrev pub shown : Connection → Result declared.Arrival ArriveRefusal → Arrival
shown k (Ok a) = record {
  decision = verdict_of a.verdict;
  place = none;
  skipped = some a.skipped;
  part = a.part;
  fin = a.fin;
  blocks = held a.blocks;
  connection = a.connection;
}
shown k (Err why) = refusing k (arrive_refusal_number why) (arrive_refusal_place why)
