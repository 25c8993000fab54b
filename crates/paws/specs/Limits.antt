-- A worked case at each limit of the premises. The SYN's true number is 2^32 + 4999, so that its SEQ is 4999; the record is opened under the
-- field-station profile, from fields read before, at clock 100, with a receive shift of 3.
use Rattle.std.specs.Prelude.{true, false, List, [], ◌∷◌, ℕ, ◌+◌, ◌-◌, ◌^◌, None}
use Rattle.segment.specs.SackBlocks.{padded}
use Rattle.segment.specs.declared.Segment.{Segment}
use Rattle.paws.specs.History.{Sent}

-- one number from this one on, with this stamp
abbrev one : ℕ → ℕ → Sent
one start stamp = record { start = start; len = 1; stamp = stamp }

-- a stamp 2^31 - 1 ticks ahead of the SYN's, which is 50
abbrev pub ahead : ℕ
ahead = 50 + (2 ^ 31 - 1)

abbrev pub syn : Sent
syn = one (2 ^ 32 + 4999) 50

-- its number is the last below the right edge of our SYN, 2^32 + 5000 + 65535; its stamp is the SYN's
abbrev pub far : Sent
far = one (2 ^ 32 + 70534) 50

-- the first octet, with a stamp as far ahead as the premises allow
abbrev pub first : Sent
first = one (2 ^ 32 + 5000) ahead

-- its number is the last below the right edge of an acknowledgment, 2^32 + 5001 + 10000 x 2^3
abbrev pub last : Sent
last = one (2 ^ 32 + 85000) ahead

-- it starts 2^30 - 1 below that number, which is the highest of all
abbrev pub low : Sent
low = one (2 ^ 32 + 85000 - (2 ^ 30 - 1)) ahead

abbrev pub history : List Sent
history = syn ∷ far ∷ first ∷ last ∷ low ∷ []

-- exactly 24 days after the opening
abbrev pub late : ℕ
late = 100 + 2073600000

-- an RST without timestamps at RCV.NXT once the first octet has been taken
abbrev pub reset : Segment
reset = record {
  source = 40001;
  destination = 443;
  seq = record { 0 = 5001 };
  ack = record { 0 = 0 };
  flags = record { cwr = false; ece = false; urg = false; ack = false; psh = false; rst = true; syn = false; fin = false };
  window = 0;
  urgent = 0;
  options = record {
    mss = None;
    scale = None;
    permitted = false;
    blocks = padded [];
    timestamps = None;
  };
  skipped = 0;
  payload = record { start = 20; length = 0 };
  len = 0;
}
