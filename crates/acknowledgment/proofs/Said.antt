-- What an acknowledgment says, field by field, as `read_back` has it read, and the octets of its options. Assumes nothing.
use mathlib.Core.Bool.{Bool, true, false, cond}
use mathlib.Core.List.{List, [], ◌∷◌, ◌++◌}
use mathlib.Core.Path.{◌≡◌, refl, ap, ◌∙◌}
use Prim.Native.Nat.{ℕ, ◌+◌, ◌%◌}
use lib.ListN.{drop, take}
use Rattle.serial.specs.declared.Range.{Range}
use Rattle.octets.specs.Octets.{big_endian}
use Rattle.std.specs.Prelude.{Option, Some, None}
use Rattle.segment.specs.SackBlocks.{held}
use Rattle.segment.specs.declared.Segment.{Segment}
use Rattle.segment.specs.declared.Timestamps.{Timestamps}
use Rattle.writer.specs.Writing.{mss_written, sack_written, scale_written, timestamps_written}
use Rattle.writer.specs.declared.Ports.{Ports}
use Rattle.writer.proofs.OptionOctets.{from_20, in_order}
use Rattle.receive.specs.Ranges.{ranges_of}
use Rattle.connection.specs.declared.Connection.{Connection}
use Rattle.acknowledgment.specs.Acknowledgment.{own_blocks, own_header, own_options, own_timestamps, window_field}
use Rattle.acknowledgment.specs.ReadBack.{own_octets, own_segment}
use Rattle.acknowledgment.proofs.ReadBack.{all_blocks, none_left_out}

module _ (k : Connection) (ports : Ports) (clock : ℕ) where
  abbrev s : Segment
  s = own_segment k ports clock

  abbrev ranges : List Range
  ranges = ranges_of k.receive.held

  -- what is said of timestamps and ranges, by what is in force
  abbrev stamps : Bool → Option Timestamps
  stamps active =
      cond active (Some (record { value = record { 0 = (clock + k.timestamping.offset) % 4294967296 }; echoed = k.timestamping.recent })) None

  abbrev blocks : Bool → Bool → List Range
  blocks sack active = cond sack (take (cond active 3 4) ranges) []

  -- The header: given ports, SEQ = SND.NXT, ACK = RCV.NXT, flag ACK only, the window field, urgent 0; and no payload.
  pub ports_as_given : (s.source ≡ ports.source) × (s.destination ≡ ports.destination)
  unfolding own_segment
  ports_as_given = (refl, refl)

  pub seq_is_snd_nxt : s.seq ≡ k.send.nxt
  unfolding own_segment
  seq_is_snd_nxt = refl

  pub ack_is_rcv_nxt : s.ack ≡ k.receive.nxt
  unfolding own_segment
  ack_is_rcv_nxt = refl

  pub flag_ack_only : s.flags
      ≡ record { cwr = false; ece = false; urg = false; ack = true; psh = false; rst = false; syn = false; fin = false }
  unfolding own_segment
  flag_ack_only = refl

  pub window_said : s.window ≡ window_field k.receive
  unfolding own_segment
  window_said = refl

  pub urgent_zero : s.urgent ≡ 0
  unfolding own_segment
  urgent_zero = refl

  pub no_payload : (s.payload.length ≡ 0) × (s.len ≡ 0)
  unfolding own_segment
  no_payload = (refl, refl)

  -- TSval is (clock + offset) mod 2^32 and TSecr = TS.Recent, if timestamps are in force; else there are none
  pub stamps_said : k.timestamping.active ≡ true
      → s.options.timestamps
      ≡ Some (record { value = record { 0 = (clock + k.timestamping.offset) % 4294967296 }; echoed = k.timestamping.recent })
  unfolding own_segment own_options own_timestamps
  stamps_said active = ap stamps active

  pub no_stamps : k.timestamping.active ≡ false → s.options.timestamps ≡ None
  unfolding own_segment own_options own_timestamps
  no_stamps not = ap stamps not

  -- the first n ranges, if SACK is in force: n is at most 3 with timestamps, 4 without; else there are none
  pub blocks_said : k.sack ≡ true → held s.options.blocks ≡ take (cond k.timestamping.active 3 4) ranges
  unfolding own_blocks
  blocks_said sack = all_blocks k ports clock ∙ ap (λ t. blocks t k.timestamping.active) sack

  pub no_blocks : k.sack ≡ false → held s.options.blocks ≡ []
  unfolding own_blocks
  no_blocks not = all_blocks k ports clock ∙ ap (λ t. blocks t k.timestamping.active) not

  pub no_other_option : (s.options.mss ≡ None) × (s.options.scale ≡ None) × (s.options.permitted ≡ false)
  unfolding own_segment own_options
  no_other_option = (refl, refl, refl)

  -- The octets after the fixed header: if timestamps, 01 01 08 0A TSval TSecr; then the SACK option, whose octets `sack_start`,
  -- `left_edge` and `right_edge` of the writer give.
  options_are : drop 20 (own_octets k ports clock) ≡ timestamps_written false (own_timestamps k.timestamping clock) ++ sack_written (own_blocks k)
  unfolding own_segment own_options mss_written scale_written
  options_are =
      from_20 (own_options k clock) (own_header k ports) ∙ in_order (own_options k clock)
      ∙ ap (λ (bs : List Range). timestamps_written false (own_timestamps k.timestamping clock) ++ sack_written bs)
      (none_left_out k ports clock ∙ all_blocks k ports clock)

  pub with_timestamps : k.timestamping.active ≡ true → drop 20 (own_octets k ports clock)
      ≡ 1 ∷ 1 ∷ 8 ∷ 10 ∷ (big_endian 4 ((clock + k.timestamping.offset) % 4294967296)
      ++ (big_endian 4 k.timestamping.recent.0 ++ sack_written (cond k.sack (take 3 ranges) [])))
  unfolding own_timestamps own_blocks timestamps_written big_endian
  with_timestamps active = options_are ∙ (λ i. timestamps_written false (stamps (active i)) ++ sack_written (blocks k.sack (active i)))

  pub without_timestamps : k.timestamping.active ≡ false → drop 20 (own_octets k ports clock)
      ≡ sack_written (cond k.sack (take 4 ranges) [])
  unfolding own_timestamps own_blocks timestamps_written
  without_timestamps not = options_are ∙ (λ i. timestamps_written false (stamps (not i)) ++ sack_written (blocks k.sack (not i)))
