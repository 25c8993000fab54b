-- What our reader is to make of an acknowledgment that we write (document 01, "Acknowledgments written").
use Rattle.std.specs.Prelude.{ℕ, List, length}
use Rattle.segment.specs.declared.Segment.{Segment}
use Rattle.writer.specs.Writing.{written}
use Rattle.writer.specs.declared.Ports.{Ports}
use Rattle.connection.specs.declared.Connection.{Connection}
use Rattle.acknowledgment.specs.Acknowledgment.{own_header, only_ack, own_options, window_field}

-- the octets of the acknowledgment
abbrev pub own_octets : Connection → Ports → ℕ → List ℕ
own_octets k ports clock = written (own_header k ports) (own_options k clock)

-- every field, no other option, and no payload
unfoldable pub own_segment : Connection → Ports → ℕ → Segment
own_segment k ports clock = record {
  source = ports.source;
  destination = ports.destination;
  seq = k.send.nxt;
  ack = k.receive.nxt;
  flags = only_ack;
  window = window_field k.receive;
  urgent = 0;
  options = own_options k clock;
  skipped = 0;
  payload = record { start = length (own_octets k ports clock); length = 0 };
  len = 0;
}
