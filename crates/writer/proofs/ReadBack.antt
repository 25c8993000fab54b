-- A segment that is written is read back to the same fields, with no premise. Assumes nothing.
use mathlib.Core.List.{List, []}
use mathlib.Core.Path.{◌≡◌, refl, ap, ◌∙◌}
use Prim.Native.Nat.{ℕ, ◌+◌, ◌-◌, ◌*◌, ◌%◌, ◌≤◌}
use native.Mathlib.Omega.{arith}
use lib.ListN.{drop, get_or, length, take}
use lib.Seq.{take_all, take-append_seam}
use Rattle.octets.specs.Octets.{big_endian, number_at}
use Rattle.octets.proofs.ReadBack.{number_at_big_endian}
use Rattle.segment.specs.Reading.{data_offset, flags_of, len_of, option_octets, read_as, reading, segment_of, steps_of}
use Rattle.segment.specs.declared.Flags.{Flags}
use Rattle.segment.specs.declared.Options.{Options}
use Rattle.segment.proofs.FlagsRead.{flags_read}
use Rattle.segment.proofs.OptionsRead.{Said}
use Rattle.segment.proofs.Readable.{Passed, read_if}
use Rattle.writer.specs.Writing.{fitting, flags_written, header_written, options_written, segment_written, writing, written}
use Rattle.writer.specs.declared.Header.{Header}
use Rattle.writer.proofs.Answers.{writes_if}
use Rattle.writer.proofs.KindsRead.{with_blocks}
use Rattle.writer.proofs.Lengths.{length_options, length_written, units, units_most}
use Rattle.writer.proofs.OptionsBack.{options_back}

pub flags_back : (f : Flags) → flags_of (flags_written f) ≡ f
unfolding flags_written
flags_back f = flags_read f

module _ (h : Header) (o : Options) where
  offset_is : data_offset (written h o) ≡ 5 + units o
  unfolding written header_written big_endian
  offset_is = omega arith

  end_is : 4 * data_offset (written h o) ≡ 20 + length (options_written o)
  end_is = omega (arith, offset_is, length_options o)

  passed : Passed (written h o)
  passed = record {
    long = omega (arith, length_written h o);
    short = omega (arith, length_written h o, length_options o, units_most o);
    offset_least = omega (arith, offset_is);
    offset_most = omega (arith, end_is, length_written h o);
  }

  options_octets : option_octets (written h o) ≡ options_written o
  unfolding written header_written big_endian
  options_octets = ap (drop 20) (take_all (4 * data_offset (written h o)) (written h o) (omega (arith, end_is, length_written h o)))

  options_said : Said [] (steps_of (written h o)) (with_blocks o (fitting o))
  options_said = rw options_octets ((options_back o).steps 20 [] refl refl)

  -- each field of the header is the number that was written there
  fields_back : segment_of (written h o) (20 + length (options_written o)) 0 (with_blocks o (fitting o)) ≡ segment_written h o
  unfolding segment_of segment_written written header_written big_endian number_at
  fields_back =
      let payload : length (written h o) - (20 + length (options_written o)) ≡ 0 = omega (arith, length_written h o) in
      let flags = flags_back h.flags in
      λ i. record {
        source = number_at_big_endian 1 h.ports.source [] i;
        destination = number_at_big_endian 1 h.ports.destination [] i;
        seq = record { 0 = number_at_big_endian 3 h.seq.0 [] i };
        ack = record { 0 = number_at_big_endian 3 h.ack.0 [] i };
        flags = flags i;
        window = number_at_big_endian 1 h.window [] i;
        urgent = 0;
        options = with_blocks o (fitting o);
        skipped = 0;
        payload = record { start = 20 + length (options_written o); length = payload i };
        len = len_of (payload i) (flags i);
      }

  pub read_back : reading (written h o) ≡ read_as (segment_written h o)
  read_back =
      read_if (written h o) passed options_said.no_fault
      ∙ ap read_as (rw (options_said.none_skipped, options_said.options_are, end_is) fields_back)

  -- and so are the octets that the writer leaves at the start of a buffer
  pub buffer_read_back : (buffer : List ℕ) → length (written h o) ≤ length buffer
      → reading (take (writing h o buffer).length (writing h o buffer).buffer) ≡ read_as (segment_written h o)
  buffer_read_back buffer room =
      rw (writes_if h o buffer room, take-append_seam (written h o) (drop (length (written h o)) buffer)) read_back

  -- what the reader does not look at is 0: the low half of octet 12, and the checksum
  pub unread_zero : (get_or (written h o) 12 0 % 16 ≡ 0) × (number_at 2 (written h o) 16 ≡ 0)
  unfolding written header_written big_endian number_at
  unread_zero = (omega arith, refl)
