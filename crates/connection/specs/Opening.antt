-- Opening a record (document 01, "Opening", and E9, E10, E11).
use Rattle.std.specs.Prelude.{Bool, cond, not, ◌&&◌, ◌||◌, List, ℕ, eqb, Option, None, Some, Result, Ok, Err}
use Rattle.std.proofs.Math.Option as maybe
use Rattle.std.proofs.Math.Option.{none, some, Option-elim}
use Rattle.serial.specs.Serial.{moved_by}
use Rattle.serial.specs.declared.Stamp.{Stamp}
use Rattle.offers.specs.Offers.{exceed_limits, in_force}
use Rattle.offers.specs.declared.InForce.{InForce}
use Rattle.offers.specs.declared.Offers.{Offers}
use Rattle.receive.specs.Window as receive
use Rattle.rto.specs.Timer.{new_timer}
use Rattle.segment.specs.Reading.{reading}
use Rattle.segment.specs.declared.Segment.{Segment}
use Rattle.segment.specs.declared.Timestamps.{Timestamps}
use Rattle.send.specs.Send as send
use Rattle.send.specs.declared.AckFields.{AckFields}
use Rattle.timestamps.specs.Timestamps as timestamps
use Rattle.connection.specs.declared.Connection.{Connection}
use Rattle.connection.specs.declared.OpenRefusal.{OpenRefusal}
use Rattle.connection.specs.declared.Opened.{Opened}
use Rattle.connection.specs.declared.Setup.{Setup}
use Rattle.connection.specs.Numbers.{open_refusal_number, open_refusal_place}
use Rattle.connection.specs.Record.{blank}

-- the fields of a segment that the send side takes, and those that the timestamps take
abbrev pub ack_fields_of : Segment → AckFields
ack_fields_of s = record { seq = s.seq; ack = s.ack; window = s.window }

abbrev pub tsval_of : Option Timestamps → Option Stamp
tsval_of None = None
tsval_of (Some pair) = Some pair.value

-- what the peer's SYN offers
abbrev pub peer_offers : Segment → Offers
peer_offers syn = record {
  scale = syn.options.scale;
  timestamps = timestamps.is_present (tsval_of syn.options.timestamps);
  sack = syn.options.permitted;
}

-- E9: own shift above 14, or first receive window above 65,535
abbrev pub exceeds_limits : Setup → Bool
exceeds_limits own = exceed_limits own.offers own.window

-- E10: opening segment lacks SYN, or has RST
unfoldable pub is_not_syn : Segment → Bool
is_not_syn syn = not syn.flags.syn || syn.flags.rst

-- E11: opening segment has ACK and its ACK is not ISS+1
unfoldable pub is_wrong_ack : ℕ → Segment → Bool
is_wrong_ack iss syn = syn.flags.ack && not (eqb syn.ack.0 (moved_by iss 1))

-- no MSS means 536
abbrev pub mss_of : Option ℕ → ℕ
mss_of None = 536
mss_of (Some n) = n

-- RCV.NXT = Last.ACK.sent = SEQ+1. No ranges are held; the timer is new. The rest goes by what is in force.
unfoldable pub record_with : InForce → Setup → ℕ → Segment → Connection
record_with force own clock syn = record {
  receive = receive.opened (moved_by syn.seq.0 1) own.window force.shifts.receive;
  send = send.opened own.iss.0 force.shifts.send (ack_fields_of syn) syn.flags.ack;
  timestamping = timestamps.opened force.timestamps own.offset clock (tsval_of syn.options.timestamps);
  sack = force.sack;
  mss = mss_of syn.options.mss;
  timer = new_timer;
}

unfoldable pub record_from : Setup → ℕ → Segment → Connection
record_from own clock syn = record_with (in_force own.offers (peer_offers syn)) own clock syn

-- the answer to an opening in document 01's terms: 0 or the refusal's number, and the record; with E4, E5 and E6 the place in the segment of
-- the kind octet at fault, with an opened record how many unknown options were skipped
pub record OpeningAnswer : Type 0 where
  pub number : ℕ
  pub place : maybe.Option ℕ
  pub skipped : maybe.Option ℕ
  pub connection : Connection

-- a refused opening answers its number, and the place if there is one, beside the blank record
abbrev pub refused_opening : ℕ → maybe.Option ℕ → OpeningAnswer
refused_opening number place = record { number = number; place = place; skipped = none; connection = blank }

unfoldable pub opening_from : Setup → ℕ → Segment → OpeningAnswer
opening_from own clock syn =
    cond (is_not_syn syn) (refused_opening 10 none)
    (cond (is_wrong_ack own.iss.0 syn) (refused_opening 11 none)
    (record { number = 0; place = none; skipped = some syn.skipped; connection = record_from own clock syn }))

-- E9, E10, E11, of a segment that has been read
unfoldable pub opening_read : Setup → ℕ → Segment → OpeningAnswer
opening_read own clock syn = cond (exceeds_limits own) (refused_opening 9 none) (opening_from own clock syn)

-- E9, reading, E10, E11
unfoldable pub opening : Setup → ℕ → List ℕ → OpeningAnswer
opening own clock octets =
    cond (exceeds_limits own) (refused_opening 9 none)
    (Option-elim (reading octets).fields (refused_opening (reading octets).number (reading octets).place) (opening_from own clock))

-- the same of what the code answers
abbrev pub shown_open : Result Opened OpenRefusal → OpeningAnswer
shown_open (Ok opened) = record { number = 0; place = none; skipped = some opened.skipped; connection = opened.connection }
shown_open (Err why) = refused_opening (open_refusal_number why) (open_refusal_place why)
