-- The octets of the worked case's segments read as their fields. Assumes nothing.
use Rattle.std.specs.Prelude.{None, Some, []}
use mathlib.Core.Bool.{true, false}
use mathlib.Core.List.{[]}
use mathlib.Core.Option.{none, some, Option-elim}
use mathlib.Core.Path.{◌≡◌, refl, ap, ◌∙◌}
use Prim.Native.Nat.{ℕ, ◌+◌, ◌-◌, ◌*◌, ◌%◌, ◌^◌, ◌≤◌}
use native.Mathlib.Omega.{arith}
use lib.ListN.{length, length-replicate}
use Rattle.octets.specs.Octets.{big_endian, number_at}
use Rattle.octets.proofs.ReadBack.{number_at_big_endian}
use Rattle.segment.specs.Grammar.{is_broken, padding, padding_rule}
use Rattle.segment.specs.Options as options
use Rattle.segment.specs.Reading.{Answer, data_offset, options_read, reading, segment_of, steps_of}
use Rattle.segment.specs.SackBlocks.{padded}
use Rattle.segment.specs.declared.Segment.{Segment}
use Rattle.segment.proofs.Readable.{Passed, read_if}
use Rattle.paws.specs.History.{Sent}
use Rattle.paws.specs.Segments.{fields, as_fields, octets, as_octets}

pub syn_read : (reading (octets true 4999 50 0)).fields ≡ some (fields true None 4999 50 0)
unfolding big_endian number_at is_broken padding padding_rule options.fault_at options.fault_in options.is_repeated
    options.is_wrong_length options.lengths_of options.option_in options.options_of options.stands_in options_read reading segment_of Option-elim
syn_read = refl

module _ (p : Sent) (small : p.len ≤ 65503) where
  length_octets : length (as_octets p) ≡ 32 + p.len
  unfolding as_octets big_endian
  length_octets = omega (arith, length-replicate {A = ℕ} p.len 170)

  offset_is : data_offset (as_octets p) ≡ 8
  unfolding as_octets big_endian
  offset_is = refl

  passed : Passed (as_octets p)
  passed = record {
    long = omega (arith, length_octets);
    short = omega (arith, length_octets);
    offset_least = omega (arith, offset_is);
    offset_most = omega (arith, offset_is, length_octets);
  }

  no_fault : options.fault_in [] (steps_of (as_octets p)) ≡ none
  unfolding as_octets big_endian number_at is_broken padding padding_rule options.fault_at options.fault_in options.is_repeated options.is_wrong_length
      options.lengths_of options.option_in options.options_of options.stands_in
  no_fault = refl

  fields_are : segment_of (as_octets p) (4 * data_offset (as_octets p)) (options.skipped_in (steps_of (as_octets p))) (options.options_of (steps_of (as_octets p)))
      ≡ as_fields p
  unfolding no_fault as_fields segment_of
  fields_are =
      let payload : length (as_octets p) - 32 ≡ p.len = omega (arith, length_octets) in
      λ i. record {
        source = 40001;
        destination = 443;
        seq = record { 0 = number_at_big_endian 3 (p.start % 2 ^ 32) [] i };
        ack = record { 0 = 1000 };
        flags = record { cwr = false; ece = false; urg = false; ack = true; psh = false; rst = false; syn = false; fin = false };
        window = 9;
        urgent = 0;
        options = record {
          mss = None;
          scale = None;
          permitted = false;
          blocks = padded [];
          timestamps = Some (record { value = record { 0 = number_at_big_endian 3 (p.stamp % 2 ^ 32) [] i }; echoed = record { 0 = 0 } });
        };
        skipped = 0;
        payload = record { start = 32; length = payload i };
        len = payload i + 0 + 0;
      }

  pub octets_read : (reading (as_octets p)).fields ≡ some (as_fields p)
  octets_read = ap (λ (a : Answer Segment). a.fields) (read_if (as_octets p) passed no_fault) ∙ ap some fields_are
