-- The segments of the worked cases: their octets, and the fields that are read from them.
use Rattle.std.specs.Prelude.{Bool, true, false, cond, not, List, ℕ, ◌+◌, ◌%◌, ◌^◌, None, Option, Some, []}
use Rattle.segment.specs.SackBlocks.{padded}
use Rattle.segment.specs.declared.Segment.{Segment}
use Rattle.connection.specs.Cases as cases
use Rattle.connection.specs.declared.Setup.{Setup}
use Rattle.paws.specs.History.{Sent}

-- our side of the opening, with this offer of a shift: ISS 1000, timestamps, a first window of 65,535
abbrev pub own : Option ℕ → Setup
own scale = record {
  iss = record { 0 = 1000 };
  offers = record { scale = scale; timestamps = true; sack = false };
  window = 65535;
  offset = 7;
}

-- with SYN, or else with ACK: SEQ, TSval, and octets of payload. ACK is 1000, the window 9, TSecr 0.
abbrev pub octets : Bool → ℕ → ℕ → ℕ → List ℕ
octets syn seq value payload = cases.octets seq 1000 (cond syn 2 16) 9 (cases.stamps value 0) payload

-- the same with an offer of a shift
abbrev pub fields : Bool → Option ℕ → ℕ → ℕ → ℕ → Segment
fields syn scale seq value payload = record {
  source = 40001;
  destination = 443;
  seq = record { 0 = seq };
  ack = record { 0 = 1000 };
  flags = record { cwr = false; ece = false; urg = false; ack = not syn; psh = false; rst = false; syn = syn; fin = false };
  window = 9;
  urgent = 0;
  options = record {
    mss = None;
    scale = scale;
    permitted = false;
    blocks = padded [];
    timestamps = Some (record { value = record { 0 = value }; echoed = record { 0 = 0 } });
  };
  skipped = 0;
  payload = record { start = 32; length = payload };
  len = payload + cond syn 1 0 + 0;
}

-- a segment of a history, with ACK: its octets, and its fields
unfoldable pub as_octets : Sent → List ℕ
as_octets p = octets false (p.start % 2 ^ 32) (p.stamp % 2 ^ 32) p.len

unfoldable pub as_fields : Sent → Segment
as_fields p = fields false None (p.start % 2 ^ 32) (p.stamp % 2 ^ 32) p.len
