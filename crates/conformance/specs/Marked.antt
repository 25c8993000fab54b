-- Document 01's "Marked cases M1 to M12" as one table: `worked` is what the definitions give for each case, `paper` what document 01 gives, of
-- M11 and M12 with document 02's margin, and `marked` of proofs/Marked.antt says that the two are equal. Every record in it is one that
-- an opening gave, or an opening and the segments after it.
use Rattle.std.specs.Prelude.{ℕ, ◌-◌, ◌^◌, Bool, true, false, List, [], ◌∷◌, ◌++◌, ltb, ℤ, pos, neg_ℤ, drop, replicate, take, None, Some}
use Rattle.serial.specs.Serial.{distance_of, range}
use Rattle.serial.specs.declared.Range.{Range}
use Rattle.rto.specs.Calls as rto
use Rattle.rto.specs.Timer.{new_timer}
use Rattle.segment.specs.Reading.{reading}
use Rattle.offers.specs.Offers.{in_force}
use Rattle.offers.specs.declared.Offers.{Offers}
use Rattle.receive.specs.Ranges.{ranges_of}
use Rattle.send.specs.Send as send
use Rattle.send.specs.declared.AckFields.{AckFields}
use Rattle.connection.specs.Calls.{Call, arrival, run, unread}
use Rattle.connection.specs.Cases as cases
use Rattle.connection.specs.Opening.{opening}
use Rattle.connection.specs.declared.Connection.{Connection}
use Rattle.connection.specs.declared.Setup.{Setup}
use Rattle.acknowledgment.specs.Acknowledgment as ack

pub data Case : Type 0 where
  M1 M2 M3 M4 M5 M6 M7 M8 M9 M10 M11 M12 : Case

pub data Fact : Type 0 where
  integer : ℤ → Fact
  number : ℕ → Fact
  holds : Bool → Fact
  octets : List ℕ → Fact
  ranges : List Range → Fact

-- the fields of a segment that the send side takes: SEQ, ACK, window
unfoldable pub send_fields : ℕ → ℕ → ℕ → AckFields
send_fields seq ack window = record { seq = record { 0 = seq }; ack = record { 0 = ack }; window = window }

-- window scaling offered with this shift, and nothing else
unfoldable pub scaling : ℕ → Offers
scaling shift = record { scale = Some shift; timestamps = false; sack = false }

-- a segment of the peer with ACK: SEQ, options, octets of payload; and its arrival, without options
unfoldable pub segment : ℕ → List ℕ → ℕ → List ℕ
segment seq options payload = cases.octets seq 1000 16 9 options payload

unfoldable pub at : ℕ → ℕ → Call
at seq payload = arrival 0 (unread (segment seq [] payload))

-- timestamps and SACK offered; first receive window 65,535; our timestamp is the clock
unfoldable pub own : Setup
own = record {
  iss = record { 0 = 1000 };
  offers = record { scale = None; timestamps = true; sack = true };
  window = 65535;
  offset = 0;
}

-- the record that a SYN with these options opens at clock 0; its SEQ is 4999, so RCV.NXT is 5000
unfoldable pub opened : List ℕ → Connection
opened options = (opening own 0 (cases.octets 4999 0 2 9 options 0)).connection

-- SACK-permitted, NOP, NOP
unfoldable pub permitted : List ℕ
permitted = 4 ∷ 2 ∷ 1 ∷ 1 ∷ []

-- the octets after the fixed header of the acknowledgment that a record writes at a clock
unfoldable pub option_octets : Connection → ℕ → List ℕ
option_octets k clock =
    let a = ack.acknowledging k (record { source = 443; destination = 40001 }) clock (replicate 60 0) in
    drop 20 (take a.length a.buffer)

unfoldable pub worked : Case → List Fact
-- the distance from the first number to the second
worked M1 = integer (distance_of 4294967295 0) ∷ []
worked M2 = integer (distance_of 0 (2 ^ 31)) ∷ []
worked M3 = integer (distance_of 0 (2 ^ 31 - 1)) ∷ []
-- SND.WND after a segment with window 65,535, where the send shift is 14; then whether it is below 2^30
worked M4 =
    let window = (send.taken (send.opened 1000 14 (send_fields 4999 0 8192) false) (send_fields 5000 1001 65535)).window in
    number window ∷ holds (ltb window (2 ^ 30)) ∷ []
-- the send shift in force: we offer 7, the peer 15
worked M5 = number (in_force (scaling 7) (scaling 15)).shifts.send ∷ []
-- the segment's number: 0 is readable
worked M6 = number (reading (segment 5000 [] 0)).number ∷ []
worked M7 = number (reading (segment 5000 (0x08 ∷ 0x09 ∷ 0 ∷ 0 ∷ []) 0)).number ∷ []
-- the SYN's TSval is 2, the clock 1; SACK is in force and no range is held
worked M8 = octets (option_octets (opened (permitted ++ cases.stamps 2 0)) 1) ∷ []
-- SACK alone is in force; 3,500 octets came at 5500
worked M9 = octets (option_octets (run (opened permitted) (at 5500 3500 ∷ [])) 1) ∷ []
-- RCV.NXT and the ranges held
worked M10 =
    let k = run (opened []) (at 5000 500 ∷ at 6000 500 ∷ at 7000 500 ∷ at 8000 500 ∷ []) in
    number k.receive.nxt.0 ∷ ranges (ranges_of k.receive.held) ∷ []
-- the timer's milliseconds, where N is 1
worked M11 = number (rto.run new_timer (rto.sample 1000 1 ∷ [])).timeout ∷ []
-- S, V and the timer's milliseconds
worked M12 =
    let timer = rto.run new_timer (rto.sample 1000 1 ∷ rto.sample 1001 1 ∷ []) in
    number timer.srtt ∷ number timer.rttvar ∷ number timer.timeout ∷ []

unfoldable pub paper : Case → List Fact
paper M1 = integer (pos 1) ∷ []
paper M2 = integer (neg_ℤ (pos (2 ^ 31))) ∷ []
paper M3 = integer (pos 2147483647) ∷ []
paper M4 = number 1073725440 ∷ holds true ∷ []
paper M5 = number 14 ∷ []
paper M6 = number 0 ∷ []
paper M7 = number 4 ∷ []
paper M8 = octets (0x01 ∷ 0x01 ∷ 0x08 ∷ 0x0A ∷ 0x00 ∷ 0x00 ∷ 0x00 ∷ 0x01 ∷ 0x00 ∷ 0x00 ∷ 0x00 ∷ 0x02 ∷ []) ∷ []
paper M9 = octets (0x01 ∷ 0x01 ∷ 0x05 ∷ 0x0A ∷ 0x00 ∷ 0x00 ∷ 0x15 ∷ 0x7C ∷ 0x00 ∷ 0x00 ∷ 0x23 ∷ 0x28 ∷ []) ∷ []
paper M10 = number 5500 ∷ ranges (range 8000 8500 ∷ range 7000 7500 ∷ range 6000 6500 ∷ []) ∷ []
paper M11 = number 3004 ∷ []
paper M12 = number 256032 ∷ number 96064 ∷ number 2505 ∷ []
