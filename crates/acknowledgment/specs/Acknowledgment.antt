-- An acknowledgment, from a record to the octets of the buffer that it is written to (document 01, "Acknowledgments written").
use Rattle.std.specs.Prelude.{ℕ, ◌/◌, ◌^◌, min, true, false, cond, List, [], eqb, ltb, take, Option, Some, None, Result, Ok, Err}
use Rattle.serial.specs.Serial.{stamp_at}
use Rattle.serial.specs.declared.Range.{Range}
use Rattle.segment.specs.SackBlocks.{padded}
use Rattle.segment.specs.declared.Flags.{Flags}
use Rattle.segment.specs.declared.Options.{Options}
use Rattle.segment.specs.declared.Timestamps.{Timestamps}
use Rattle.writer.specs.Writing as writer
use Rattle.writer.specs.declared.Header.{Header}
use Rattle.writer.specs.declared.Ports.{Ports}
use Rattle.receive.specs.Ranges.{ranges_of}
use Rattle.receive.specs.declared.Receive.{Receive}
use Rattle.timestamps.specs.declared.Timestamping.{Timestamping}
use Rattle.connection.specs.Operations.{acknowledged}
use Rattle.connection.specs.declared.Connection.{Connection}
use Rattle.acknowledgment.specs.declared.AckRefusal.{AckRefusal}
use Rattle.acknowledgment.specs.declared.Acknowledged.{Acknowledged}

-- flag ACK only
abbrev pub only_ack : Flags
only_ack = record { cwr = false; ece = false; urg = false; ack = true; psh = false; rst = false; syn = false; fin = false }

-- receive window / 2^(rcv shift), rounded down and at most 65,535
unfoldable pub window_field : Receive → ℕ
window_field r = min (r.window / 2 ^ r.shift) 65535

-- SEQ = SND.NXT, ACK = RCV.NXT
unfoldable pub own_header : Connection → Ports → Header
own_header k ports = record { ports = ports; seq = k.send.nxt; ack = k.receive.nxt; flags = only_ack; window = window_field k.receive }

-- TSval is our timestamp and TSecr = TS.Recent, if timestamps are in force
unfoldable pub own_timestamps : Timestamping → ℕ → Option Timestamps
own_timestamps t clock = cond t.active (Some (record { value = record { 0 = stamp_at clock t.offset }; echoed = t.recent })) None

-- the first n ranges, newest first, if SACK is in force: n is at most 3 with timestamps, 4 without
unfoldable pub own_blocks : Connection → List Range
own_blocks k = cond k.sack (take (cond k.timestamping.active 3 4) (ranges_of k.receive.held)) []

-- no other option
unfoldable pub own_options : Connection → ℕ → Options
own_options k clock = record {
  mss = None;
  scale = None;
  permitted = false;
  blocks = padded (own_blocks k);
  timestamps = own_timestamps k.timestamping clock;
}

-- an answer in document 01's terms: 0 and how many octets were written, or the refusal's number and 0; the buffer and the record afterwards
pub record Answer : Type 0 where
  pub number : ℕ
  pub length : ℕ
  pub buffer : List ℕ
  pub connection : Connection

-- a refusal's number alone: the buffer and the record stay
abbrev pub refused : ℕ → List ℕ → Connection → Answer
refused n buffer k = record { number = n; length = 0; buffer = buffer; connection = k }

-- what writing answered, E7 among it, and the record after it: if octets were written, Last.ACK.sent = RCV.NXT, and nothing else changes
abbrev pub answered_by : Connection → writer.Answer → Answer
answered_by k w = record { number = w.number; length = w.length; buffer = w.buffer; connection = cond (eqb w.number 0) (acknowledged k) k }

-- E8, then E7
unfoldable pub acknowledging : Connection → Ports → ℕ → List ℕ → Answer
acknowledging k ports clock buffer =
    cond (ltb clock k.timestamping.since) (refused 8 buffer k) (answered_by k (writer.writing (own_header k ports) (own_options k clock) buffer))

-- document 01's number of each refusal
abbrev pub refusal_number : AckRefusal → ℕ
refusal_number AckRefusal.ClockBack = 8
refusal_number AckRefusal.BufferTooShort = 7

-- what the code answers, with the buffer afterwards: a refusal leaves the record
abbrev pub shown : Connection → Result Acknowledged AckRefusal → List ℕ → Answer
shown k (Ok a) buffer = record { number = 0; length = a.length; buffer = buffer; connection = a.connection }
shown k (Err why) buffer = refused (refusal_number why) buffer k
