-- What taking a segment does to a record, part by part (document 01, "What taking does", and document 02, P4).
use Rattle.std.specs.Prelude.{cond, ◌&&◌, List, [], ◌∷◌, ℕ, max, min, ◌*◌, Option, None, Some}
use Rattle.serial.specs.declared.Range.{Range}
use Rattle.laws.specs.Lists.{filter}
use Rattle.receive.specs.Taking as receive
use Rattle.receive.specs.Window.{new_part}
use Rattle.rto.specs.Calls.{Call, run, sample}
use Rattle.rto.specs.Timer.{rounded_up}
use Rattle.segment.specs.SackBlocks.{held}
use Rattle.segment.specs.declared.Segment.{Segment}
use Rattle.segment.specs.declared.Timestamps.{Timestamps}
use Rattle.send.specs.Send as send
use Rattle.timestamps.specs.Timestamps as timestamps
use Rattle.timestamps.specs.declared.Timestamping.{Timestamping}
use Rattle.connection.specs.declared.Connection.{Connection}
use Rattle.connection.specs.Opening.{ack_fields_of, tsval_of}

-- twice the MSS; an MSS below 64 counts as 64
abbrev pub two_segments : ℕ → ℕ
two_segments mss = 2 * max 64 mss

-- document 02's N, RFC 7323's ExpectedSamples: outstanding octets divided by twice the MSS, rounded up, at least 1 and at most 16
abbrev pub expected_samples : ℕ → ℕ → ℕ
expected_samples outstanding mss = min 16 (max 1 (rounded_up outstanding (two_segments mss)))

-- by the octets that are outstanding before the take
abbrev pub expected_in : Connection → ℕ
expected_in k = expected_samples (send.outstanding k.send) k.mss

-- the sample R that the segment's TSecr gives, with its N
unfoldable pub sample_of : Timestamping → ℕ → Option Timestamps → ℕ → List Call
sample_of t clock None n = []
sample_of t clock (Some pair) n = sample (timestamps.sample_at t clock pair.echoed.0) n ∷ []

-- a new ACK with timestamps gives a sample: what a take feeds to the timer, one that E14 refuses too, which the timer leaves out
unfoldable pub fed_by : Connection → ℕ → Segment → List Call
fed_by k clock s =
    cond (k.timestamping.active && send.is_new k.send s.ack.0)
    (sample_of k.timestamping clock s.options.timestamps (expected_in k)) []

-- Last.ACK.sent is its value before the segment
unfoldable pub record_after : Connection → ℕ → Segment → Connection
record_after k clock s = record {
  receive = receive.taken k.receive (new_part k.receive s.seq.0 s.len);
  send = send.taken k.send (ack_fields_of s);
  timestamping = timestamps.taken k.timestamping clock k.receive.acked.0 s.seq.0 (tsval_of s.options.timestamps);
  sack = k.sack;
  mss = k.mss;
  timer = run k.timer (fed_by k clock s);
}

-- the peer's SACK blocks in their order, only if SACK is in force, judged by the record after the take
unfoldable pub listed : Connection → Segment → List Range
listed after s = cond after.sack (filter (send.is_listed after.send) (held s.options.blocks)) []
