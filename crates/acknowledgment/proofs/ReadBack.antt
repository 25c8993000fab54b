-- An acknowledgment that is written is read back by our reader to the same fields, with all its SACK blocks. Assumes nothing.
use mathlib.Core.Bool.{Bool, true, false, cond}
use mathlib.Core.List.{List, [], ◌++◌}
use mathlib.Core.Path.{◌≡◌, refl, sym, ap, ◌∙◌}
use Prim.Native.Nat.{ℕ, ◌≤◌}
use native.Mathlib.Omega.{arith}
use lib.ListN.{length, length-take, take}
use borrow.Author.Tests.{le-ltb}
use Rattle.laws.proofs.Choices.{either}
use Rattle.serial.specs.declared.Range.{Range}
use Rattle.serial.specs.declared.Stamp.{Stamp}
use Rattle.octets.specs.Octets.{big_endian}
use Rattle.segment.specs.Reading.{read_as, reading}
use Rattle.std.specs.Prelude.{Some, None}
use Rattle.segment.specs.SackBlocks.{held, padded}
use Rattle.segment.specs.declared.Options.{Options}
use Rattle.segment.proofs.HeldBlocks.{held_all}
use Rattle.writer.specs.Writing.{block_room, fitting, mss_written, others_written, scale_written, segment_written, timestamps_written}
use Rattle.writer.specs.declared.Ports.{Ports}
use Rattle.writer.proofs.Lengths.{fits, length_written}
use Rattle.writer.proofs.ReadBack.{buffer_read_back}
use Rattle.receive.specs.Ranges.{ranges_of}
use Rattle.connection.specs.declared.Connection.{Connection}
use Rattle.acknowledgment.specs.Acknowledgment.{acknowledging, only_ack, own_blocks, own_header, own_options, own_timestamps, window_field}
use Rattle.acknowledgment.specs.ReadBack.{own_octets, own_segment}

-- room for so many blocks beside the timestamps
stamps_room : (active : Bool) (value echoed : Stamp)
    → block_room (length (timestamps_written false (cond active (Some (record { value = value; echoed = echoed })) None) ++ [])) ≡ cond active 3 4
unfolding timestamps_written big_endian
stamps_room true value echoed = refl
stamps_room false value echoed = refl

at_most_four : (active : Bool) → cond active 3 4 ≤ 4
at_most_four true = omega arith
at_most_four false = omega arith

module _ (k : Connection) (ports : Ports) (clock : ℕ) where
  abbrev options : Options
  options = own_options k clock

  blocks_most : length (own_blocks k) ≤ cond k.timestamping.active 3 4
  unfolding own_blocks
  blocks_most =
      let n : ℕ = cond k.timestamping.active 3 4 in
      either (λ (l : List Range). length l ≤ n) k.sack _ _ (λ _. omega (arith, length-take n (ranges_of k.receive.held))) (λ _. omega arith)

  blocks_room : block_room (length (others_written options)) ≡ cond k.timestamping.active 3 4
  unfolding others_written own_options mss_written scale_written own_timestamps
  blocks_room = stamps_room k.timestamping.active _ _

  -- the blocks that are read are all that the record shows
  pub all_blocks : held (own_segment k ports clock).options.blocks ≡ own_blocks k
  unfolding own_segment own_options
  all_blocks = held_all (own_blocks k) (omega (arith, blocks_most, at_most_four k.timestamping.active))

  -- and none is left out for want of room
  pub none_left_out : fitting options ≡ held options.blocks
  unfolding own_segment
  none_left_out = fits options (omega (arith, blocks_room, ap length all_blocks, blocks_most))

  segment_is : segment_written (own_header k ports) options ≡ own_segment k ports clock
  unfolding segment_written own_segment own_header own_options
  segment_is =
      let size = length_written (own_header k ports) options in
      λ i. record {
        source = ports.source;
        destination = ports.destination;
        seq = k.send.nxt;
        ack = k.receive.nxt;
        flags = only_ack;
        window = window_field k.receive;
        urgent = 0;
        options = record {
          mss = options.mss;
          scale = options.scale;
          permitted = options.permitted;
          blocks = padded ((none_left_out ∙ all_blocks) i);
          timestamps = options.timestamps;
        };
        skipped = 0;
        payload = record { start = sym size i; length = 0 };
        len = 0;
      }

  pub read_back : (buffer : List ℕ) → k.timestamping.since ≤ clock → length (own_octets k ports clock) ≤ length buffer
      → reading (take (acknowledging k ports clock buffer).length (acknowledging k ports clock buffer).buffer) ≡ read_as (own_segment k ports clock)
  unfolding acknowledging
  read_back buffer on room = simp (le-ltb _ _ on) (buffer_read_back (own_header k ports) options buffer room ∙ ap read_as segment_is)
