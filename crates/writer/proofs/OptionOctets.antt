-- Which octets stand where in what is written, and how many SACK blocks are among them. Assumes nothing.
use mathlib.Core.Bool.{true, false}
use mathlib.Core.List.{List, [], ◌∷◌, ◌++◌, append_assoc}
use mathlib.Core.Path.{◌≡◌, refl, sym, ap, ◌∙◌}
use Prim.Native.Nat.{ℕ, ◌+◌, ◌*◌, ◌<◌}
use native.Mathlib.Omega.{arith}
use lib.ListN.{drop, length, length-append, length-take, take}
use lib.Seq.{take-length, take-take}
use Rattle.std.specs.Prelude.{Some, None}
use Rattle.serial.specs.declared.Range.{Range}
use Rattle.octets.specs.Octets.{big_endian, number_at}
use Rattle.octets.proofs.ReadBack.{length_big_endian, number_at_big_endian, number_at_within}
use Rattle.segment.specs.SackBlocks.{held}
use Rattle.segment.specs.declared.Options.{Options}
use Rattle.segment.specs.declared.Timestamps.{Timestamps}
use Rattle.writer.specs.Writing.{block_room, blocks_written, fitting, header_written, mss_written, options_written, others_written, sack_written, scale_written, timestamps_written, written}
use Rattle.writer.specs.declared.Header.{Header}
use Rattle.writer.proofs.Lengths.{aligned_others, fitting_most, length_blocks}

-- 02 04 and the size, big-endian
pub mss_octets : (n : ℕ) → mss_written (Some n) ≡ 2 ∷ 4 ∷ big_endian 2 n
unfolding mss_written
mss_octets n = refl

-- 01 01 08 0A TSval TSecr
pub timestamps_octets : (t : Timestamps)
    → timestamps_written false (Some t) ≡ 1 ∷ 1 ∷ 8 ∷ 10 ∷ (big_endian 4 t.value.0 ++ big_endian 4 t.echoed.0)
unfolding timestamps_written
timestamps_octets t = refl

-- SACK-permitted stands in the place of the NOPs, and NOPs in that of timestamps
pub both_octets : (t : Timestamps)
    → timestamps_written true (Some t) ≡ 4 ∷ 2 ∷ 8 ∷ 10 ∷ (big_endian 4 t.value.0 ++ big_endian 4 t.echoed.0)
unfolding timestamps_written
both_octets t = refl

pub permitted_octets : timestamps_written true None ≡ 4 ∷ 2 ∷ 1 ∷ 1 ∷ []
unfolding timestamps_written
permitted_octets = refl

-- 01 03 03 and the shift
pub scale_octets : (n : ℕ) → scale_written (Some n) ≡ 1 ∷ 3 ∷ 3 ∷ n ∷ []
unfolding scale_written
scale_octets n = refl

-- an option that is not there has no octets
pub none_octets : (mss_written None ≡ []) × (timestamps_written false None ≡ [])
    × (scale_written None ≡ []) × (sack_written [] ≡ [])
unfolding mss_written timestamps_written scale_written sack_written
none_octets = (refl, refl, refl, refl)

-- the SACK option: 01 01 05 and length 8n+2, and n blocks
pub sack_parts : (bs : List Range) → 0 < length bs → sack_written bs ≡ (1 ∷ 1 ∷ 5 ∷ (8 * length bs + 2) ∷ []) ++ blocks_written bs
unfolding sack_written
sack_parts [] some = absurd (omega arith)
sack_parts (b ∷ bs) some = refl

pub sack_start : (bs : List Range) → 0 < length bs → take 4 (sack_written bs) ≡ 1 ∷ 1 ∷ 5 ∷ (8 * length bs + 2) ∷ []
sack_start bs some = ap (take 4) (sack_parts bs some)

-- each block as left, right, where it stands in their order
pub blocks_split : (before : List Range) (b : Range) (after : List Range) → blocks_written (before ++ (b ∷ after))
    ≡ blocks_written before ++ (big_endian 4 b.left.0 ++ (big_endian 4 b.right.0 ++ blocks_written after))
unfolding blocks_written big_endian
blocks_split [] b after = refl
blocks_split (a ∷ before) b after =
    ap (λ (l : List ℕ). big_endian 4 a.left.0 ++ (big_endian 4 a.right.0 ++ l)) (blocks_split before b after)

module _ (before : List Range) (b : Range) (after : List Range) where
  abbrev octets : List ℕ
  octets = sack_written (before ++ (b ∷ after))

  abbrev front : List ℕ
  front = (1 ∷ 1 ∷ 5 ∷ (8 * length (before ++ (b ∷ after)) + 2) ∷ []) ++ blocks_written before

  abbrev left : List ℕ
  left = big_endian 4 b.left.0

  abbrev later : List ℕ
  later = big_endian 4 b.right.0 ++ blocks_written after

  octets_are : octets ≡ front ++ (left ++ later)
  octets_are =
      sack_parts (before ++ (b ∷ after)) (omega (arith, length-append before (b ∷ after)))
      ∙ ap (λ (l : List ℕ). (1 ∷ 1 ∷ 5 ∷ (8 * length (before ++ (b ∷ after)) + 2) ∷ []) ++ l) (blocks_split before b after)

  length_front : length front ≡ 4 + 8 * length before
  length_front = omega (arith, length_blocks before)

  pub left_edge : number_at 4 (sack_written (before ++ (b ∷ after))) (4 + 8 * length before) ≡ b.left.0
  left_edge =
      (λ i. number_at 4 (octets_are i) (sym length_front i)) ∙ number_at_within 4 front (left ++ later)
      ∙ number_at_big_endian 3 b.left.0 later

  pub right_edge : number_at 4 (sack_written (before ++ (b ∷ after))) (8 + 8 * length before) ≡ b.right.0
  right_edge =
      let place : 8 + 8 * length before ≡ length (front ++ left) =
      omega (arith, length_front, length-append front left, length_big_endian 4 b.left.0) in
      (λ i. number_at 4 ((octets_are ∙ sym (append_assoc front left later)) i) (place i))
      ∙ number_at_within 4 (front ++ left) later ∙ number_at_big_endian 3 b.right.0 (blocks_written after)

module _ (o : Options) where
  -- MSS, SACK-permitted with timestamps, window scale; then SACK
  pub in_order : options_written o
      ≡ mss_written o.mss ++ (timestamps_written o.permitted o.timestamps ++ (scale_written o.scale ++ sack_written (fitting o)))
  unfolding options_written others_written
  in_order = simp append_assoc

  -- after the fixed header
  pub from_20 : (h : Header) → drop 20 (written h o) ≡ options_written o
  unfolding written header_written big_endian
  from_20 h = refl

  -- the blocks that are written are the first, as many as there is room for in 40 octets
  pub first_blocks : fitting o ≡ take (length (fitting o)) (held o.blocks)
  unfolding fitting
  first_blocks =
      sym (take-length (fitting o)) ∙ take-take (length (fitting o)) (block_room (length (others_written o))) (held o.blocks) (fitting_most o)

  pub no_more_fit : length (fitting o) < length (held o.blocks) → 40 < length (others_written o) + (4 + 8 * (length (fitting o) + 1))
  unfolding fitting
  no_more_fit left =
      omega (arith, length-take (block_room (length (others_written o))) (held o.blocks), (aligned_others o).most)
