-- A segment without payload, written from the fields of its header and from its options: the layout of document 01, "Reading a segment",
-- and the octets of its "Acknowledgments written". MSS, SACK-permitted and window scale stand as in the opening segments of document 02.
use Rattle.std.specs.Prelude.{ℕ, ◌+◌, ◌-◌, ◌*◌, ◌/◌, Bool, true, false, cond, List, [], ◌∷◌, ◌++◌, ltb, length, take, Option, Some, None, Result, Ok, Err}
use Rattle.serial.specs.declared.Range.{Range}
use Rattle.octets.specs.Octets.{big_endian, stored}
use Rattle.refusals.specs.Number.{number_of}
use Rattle.segment.specs.Reading.{len_of}
use Rattle.segment.specs.SackBlocks.{held, padded}
use Rattle.segment.specs.declared.Flags.{Flags}
use Rattle.segment.specs.declared.Options.{Options}
use Rattle.segment.specs.declared.Segment.{Segment}
use Rattle.segment.specs.declared.Timestamps.{Timestamps}
use Rattle.writer.specs.declared.BufferTooShort.{BufferTooShort}
use Rattle.writer.specs.declared.Header.{Header}

-- from bit 7: CWR ECE URG ACK PSH RST SYN FIN
unfoldable pub flags_written : Flags → ℕ
flags_written f =
    cond f.cwr 128 0 + cond f.ece 64 0 + cond f.urg 32 0 + cond f.ack 16 0
    + cond f.psh 8 0 + cond f.rst 4 0 + cond f.syn 2 0 + cond f.fin 1 0

-- octets 0 to 19: ports, SEQ, ACK, data offset in 4-octet units, flags, window, checksum and urgent 0
unfoldable pub header_written : Header → ℕ → List ℕ
header_written h units =
    big_endian 2 h.ports.source ++ (big_endian 2 h.ports.destination ++ (big_endian 4 h.seq.0 ++ (big_endian 4 h.ack.0
    ++ ((16 * units) ∷ flags_written h.flags ∷ (big_endian 2 h.window ++ (0 ∷ 0 ∷ 0 ∷ 0 ∷ []))))))

-- Each option is a multiple of 4 octets, with NOPs where it needs them. MSS: 02 04 and the size
unfoldable pub mss_written : Option ℕ → List ℕ
mss_written None = []
mss_written (Some n) = 2 ∷ 4 ∷ big_endian 2 n

-- 08 0A TSval TSecr
abbrev pub stamps_written : Timestamps → List ℕ
stamps_written t = 8 ∷ 10 ∷ (big_endian 4 t.value.0 ++ big_endian 4 t.echoed.0)

-- SACK-permitted, 04 02, with timestamps: two NOPs stand in the place of a missing one, and nothing is written if both are missing
unfoldable pub timestamps_written : Bool → Option Timestamps → List ℕ
timestamps_written false None = []
timestamps_written true None = 4 ∷ 2 ∷ 1 ∷ 1 ∷ []
timestamps_written false (Some t) = 1 ∷ 1 ∷ stamps_written t
timestamps_written true (Some t) = 4 ∷ 2 ∷ stamps_written t

-- NOP, 03 03 and the shift
unfoldable pub scale_written : Option ℕ → List ℕ
scale_written None = []
scale_written (Some n) = 1 ∷ 3 ∷ 3 ∷ n ∷ []

-- blocks as left, right
unfoldable pub blocks_written : List Range → List ℕ
blocks_written [] = []
blocks_written (b ∷ bs) = big_endian 4 b.left.0 ++ (big_endian 4 b.right.0 ++ blocks_written bs)

-- 01 01 05, length 8n+2, and n blocks; nothing if there is none
unfoldable pub sack_written : List Range → List ℕ
sack_written [] = []
sack_written (b ∷ bs) = 1 ∷ 1 ∷ 5 ∷ (8 * length (b ∷ bs) + 2) ∷ blocks_written (b ∷ bs)

-- all options but SACK
unfoldable pub others_written : Options → List ℕ
others_written o = mss_written o.mss ++ (timestamps_written o.permitted o.timestamps ++ scale_written o.scale)

-- how many blocks fit beside so many octets of others: a header has 40 octets of options, of which the SACK option's NOPs, kind and
-- length take four and each block eight
abbrev pub block_room : ℕ → ℕ
block_room others = (40 - others - 4) / 8

-- the blocks that are written: as many of the first as fit
unfoldable pub fitting : Options → List Range
fitting o = take (block_room (length (others_written o))) (held o.blocks)

unfoldable pub options_written : Options → List ℕ
options_written o = others_written o ++ sack_written (fitting o)

-- header and options
unfoldable pub written : Header → Options → List ℕ
written h o = header_written h (5 + length (options_written o) / 4) ++ options_written o

-- what our reader is to make of it: these fields, urgent 0, these options with the blocks that fit, no other option, no payload
unfoldable pub segment_written : Header → Options → Segment
segment_written h o = record {
  source = h.ports.source;
  destination = h.ports.destination;
  seq = h.seq;
  ack = h.ack;
  flags = h.flags;
  window = h.window;
  urgent = 0;
  options = record {
    mss = o.mss;
    scale = o.scale;
    permitted = o.permitted;
    blocks = padded (fitting o);
    timestamps = o.timestamps;
  };
  skipped = 0;
  payload = record { start = 20 + length (options_written o); length = 0 };
  len = len_of 0 h.flags;
}

-- an answer in document 01's terms: 0 and how many octets were written, or the refusal's number and 0; and the buffer afterwards
pub record Answer : Type 0 where
  pub number : ℕ
  pub length : ℕ
  pub buffer : List ℕ

-- E7: the buffer is shorter than what is to be written, and stays; later octets stay
unfoldable pub writing : Header → Options → List ℕ → Answer
writing h o buffer =
    let octets = written h o in
    cond (ltb (length buffer) (length octets)) (record { number = 7; length = 0; buffer = buffer })
    (record { number = 0; length = length octets; buffer = stored octets buffer })

-- E7's number, and the number and length of the answer that the code gives, with the buffer afterwards
abbrev pub refusal_number : BufferTooShort → ℕ
refusal_number why = 7

abbrev pub number_of_writing : Result ℕ BufferTooShort → ℕ
number_of_writing w = number_of refusal_number w

abbrev pub length_of_writing : Result ℕ BufferTooShort → ℕ
length_of_writing (Ok n) = n
length_of_writing (Err why) = 0

abbrev pub shown_writing : Result ℕ BufferTooShort → List ℕ → Answer
shown_writing w buffer = record { number = number_of_writing w; length = length_of_writing w; buffer = buffer }
