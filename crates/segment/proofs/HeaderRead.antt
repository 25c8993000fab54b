-- The fields of a segment that is read: "Octets 0-1 source port, 2-3 destination port, 4-7 SEQ, 8-11 ACK, high half of 12 data offset in
-- 4-octet units, 13 flags, 14-15 window, 16-17 checksum, 18-19 urgent; all big-endian. Options run from 20 to 4 x offset, payload follows."
-- Assumes nothing.
use mathlib.Core.Bool.{cond}
use mathlib.Core.List.{List, [], ◌∷◌, ◌++◌}
use mathlib.Core.Path.{◌≡◌, ap, ◌∙◌}
use Prim.Native.Nat.{ℕ, ◌+◌, ◌-◌, ◌*◌, ◌<◌}
use native.Mathlib.Omega.{arith}
use lib.ListN.{drop, length, take}
use lib.Seq.{take_at}
use Rattle.octets.specs.Octets.{big_endian, number_at}
use Rattle.octets.proofs.ReadBack.{number_at_big_endian}
use Rattle.segment.specs.Grammar.{padding_rule}
use Rattle.segment.specs.Reading.{data_offset, read_as, reading, segment_of, steps_of}
use Rattle.segment.specs.declared.Flags.{Flags}
use Rattle.segment.specs.declared.Segment.{Segment}
use Rattle.segment.proofs.FlagsRead.{flags_read, octet_of}
use Rattle.segment.proofs.Readable.{fields_are, readable}

-- the numbers of a header; `low` is the low half of octet 12
pub record HeaderNumbers : Type 0 where
  pub source : ℕ
  pub destination : ℕ
  pub seq : ℕ
  pub ack : ℕ
  pub offset : ℕ
  pub low : ℕ
  pub flags : Flags
  pub window : ℕ
  pub checksum : ℕ
  pub urgent : ℕ

-- its octets, and those that follow
abbrev pub header_octets : HeaderNumbers → List ℕ → List ℕ
header_octets h rest =
    big_endian 2 h.source
    ++ (big_endian 2 h.destination
    ++ (big_endian 4 h.seq
    ++ (big_endian 4 h.ack
    ++ ((16 * h.offset + h.low) ∷ octet_of h.flags ∷ (big_endian 2 h.window ++ (big_endian 2 h.checksum ++ (big_endian 2 h.urgent ++ rest)))))))

-- what a segment says of these numbers, with so many octets after the fixed header
pub record HeaderSays (h : HeaderNumbers) (after : ℕ) (w : Segment) : Type 0 where
  pub source : w.source ≡ h.source
  pub destination : w.destination ≡ h.destination
  pub seq : w.seq.0 ≡ h.seq
  pub ack : w.ack.0 ≡ h.ack
  pub flags : w.flags ≡ h.flags
  pub window : w.window ≡ h.window
  pub urgent : w.urgent ≡ h.urgent
  pub payload_start : w.payload.start ≡ 4 * h.offset
  pub payload_length : w.payload.length ≡ 20 + after - 4 * h.offset
  -- payload octets, plus 1 for SYN, plus 1 for FIN
  pub len : w.len ≡ 20 + after - 4 * h.offset + cond h.flags.syn 1 0 + cond h.flags.fin 1 0

module _ (h : HeaderNumbers) (half : h.low < 16) where
  offset_is : (rest : List ℕ) → data_offset (header_octets h rest) ≡ h.offset
  unfolding big_endian
  offset_is rest = omega arith

  pub header_read : (rest : List ℕ) (w : Segment) → reading (header_octets h rest) ≡ read_as w → HeaderSays h (length rest) w
  unfolding segment_of big_endian number_at
  header_read rest w e =
      let same = fields_are (header_octets h rest) w e in
      let end : 4 * data_offset (header_octets h rest) ≡ 4 * h.offset = ap (λ (k : ℕ). 4 * k) (offset_is rest) in
      let flags : w.flags ≡ h.flags = ap (λ (x : Segment). x.flags) same ∙ flags_read h.flags in
      let payload : w.payload.length ≡ 20 + length rest - 4 * h.offset =
      ap (λ (x : Segment). x.payload.length) same ∙ omega (arith, offset_is rest) in
      record {
        source = ap (λ (x : Segment). x.source) same ∙ number_at_big_endian 1 h.source [];
        destination = ap (λ (x : Segment). x.destination) same ∙ number_at_big_endian 1 h.destination [];
        seq = ap (λ (x : Segment). x.seq.0) same ∙ number_at_big_endian 3 h.seq [];
        ack = ap (λ (x : Segment). x.ack.0) same ∙ number_at_big_endian 3 h.ack [];
        flags = flags;
        window = ap (λ (x : Segment). x.window) same ∙ number_at_big_endian 1 h.window [];
        urgent = ap (λ (x : Segment). x.urgent) same ∙ number_at_big_endian 1 h.urgent [];
        payload_start = ap (λ (x : Segment). x.payload.start) same ∙ end;
        payload_length = payload;
        len = (readable (header_octets h rest) w e).len_is ∙ (λ i. payload i + cond (flags i).syn 1 0 + cond (flags i).fin 1 0);
      }

  -- the options of a segment are the octets from 20 to 4 x offset, each at its place
  pub options_run : (options payload : List ℕ) → 20 + length options ≡ 4 * h.offset
      → steps_of (header_octets h (options ++ payload)) ≡ padding_rule 20 options
  unfolding big_endian
  options_run options payload e =
      let s : List ℕ = header_octets h (options ++ payload) in
      let header : take (4 * data_offset s) s ≡ header_octets h options =
      take_at (header_octets h options) payload (4 * data_offset s) (omega (arith, offset_is (options ++ payload))) in
      ap (λ (l : List ℕ). padding_rule 20 (drop 20 l)) header
