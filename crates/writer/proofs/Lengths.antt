-- How many octets are written, and which SACK blocks fit among them. Assumes nothing.
use mathlib.Core.Bool.{Bool, true, false, cond}
use mathlib.Core.List.{List, [], ◌∷◌, ◌++◌}
use mathlib.Core.Path.{◌≡◌, refl, ap}
use Prim.Native.Nat.{ℕ, ◌+◌, ◌-◌, ◌*◌, ◌/◌, ◌%◌, ◌≤◌, ◌<◌}
use native.Mathlib.Omega.{arith}
use lib.ListN.{length, length-append, length-take}
use lib.Seq.{take_all}
use Rattle.std.specs.Prelude.{Option, Some, None, is_some}
use Rattle.serial.specs.declared.Range.{Range}
use Rattle.octets.specs.Octets.{big_endian}
use Rattle.segment.specs.SackBlocks.{held}
use Rattle.segment.specs.declared.Options.{Options}
use Rattle.segment.specs.declared.Timestamps.{Timestamps}
use Rattle.writer.specs.Writing.{block_room, blocks_written, fitting, header_written, mss_written, options_written, others_written, sack_written, scale_written, timestamps_written, written}
use Rattle.writer.specs.declared.Header.{Header}

-- a multiple of 4 octets, and at most n
pub record Aligned (octets : List ℕ) (n : ℕ) : Type 0 where
  pub whole : length octets % 4 ≡ 0
  pub most : length octets ≤ n

-- the octets of each option, where it is there
pub length_mss : (mss : Option ℕ) → length (mss_written mss) ≡ cond (is_some mss) 4 0
unfolding mss_written big_endian
length_mss None = refl
length_mss (Some n) = refl

pub length_timestamps : (permitted : Bool) (t : Option Timestamps)
    → length (timestamps_written permitted t) ≡ cond (is_some t) 12 (cond permitted 4 0)
unfolding timestamps_written big_endian
length_timestamps false None = refl
length_timestamps true None = refl
length_timestamps false (Some t) = refl
length_timestamps true (Some t) = refl

pub length_scale : (scale : Option ℕ) → length (scale_written scale) ≡ cond (is_some scale) 4 0
unfolding scale_written
length_scale None = refl
length_scale (Some n) = refl

four : (t : Bool) → (cond t 4 0 % 4 ≡ 0) × (cond t 4 0 ≤ 4)
four true = (refl, omega arith)
four false = (refl, omega arith)

twelve : (s t : Bool) → (cond s 12 (cond t 4 0) % 4 ≡ 0) × (cond s 12 (cond t 4 0) ≤ 12)
twelve true t = (refl, omega arith)
twelve false true = (refl, omega arith)
twelve false false = (refl, omega arith)

pub length_blocks : (bs : List Range) → length (blocks_written bs) ≡ 8 * length bs
unfolding blocks_written big_endian
length_blocks [] = refl
length_blocks (b ∷ bs) = omega (arith, length_blocks bs)

pub no_sack : (bs : List Range) → length bs ≡ 0 → sack_written bs ≡ []
unfolding sack_written
no_sack [] none = refl
no_sack (b ∷ bs) none = absurd (omega arith)

pub length_sack : (bs : List Range) → 0 < length bs → length (sack_written bs) ≡ 4 + 8 * length bs
unfolding sack_written
length_sack [] some = absurd (omega arith)
length_sack (b ∷ bs) some = omega (arith, length_blocks (b ∷ bs))

-- in m octets of which four are not for blocks
aligned_sack : (bs : List Range) (m : ℕ) → 4 ≤ m → length bs ≤ (m - 4) / 8 → Aligned (sack_written bs) m
unfolding sack_written
aligned_sack [] m least few = record { whole = refl; most = omega arith }
aligned_sack (b ∷ bs) m least few =
    record { whole = omega (arith, length_blocks (b ∷ bs)); most = omega (arith, length_blocks (b ∷ bs)) }

module _ (o : Options) where
  pub length_others : length (others_written o)
      ≡ cond (is_some o.mss) 4 0 + cond (is_some o.timestamps) 12 (cond o.permitted 4 0) + cond (is_some o.scale) 4 0
  unfolding others_written
  length_others = omega (
    arith,
    length-append (mss_written o.mss) (timestamps_written o.permitted o.timestamps ++ scale_written o.scale),
    length-append (timestamps_written o.permitted o.timestamps) (scale_written o.scale),
    length_mss o.mss,
    length_timestamps o.permitted o.timestamps,
    length_scale o.scale,
  )

  pub aligned_others : Aligned (others_written o) 20
  aligned_others = record {
    whole = omega (arith, length_others, four (is_some o.mss), twelve (is_some o.timestamps) o.permitted, four (is_some o.scale));
    most = omega (arith, length_others, four (is_some o.mss), twelve (is_some o.timestamps) o.permitted, four (is_some o.scale));
  }

  pub fitting_most : length (fitting o) ≤ block_room (length (others_written o))
  unfolding fitting
  fitting_most = omega (arith, length-take (block_room (length (others_written o))) (held o.blocks))

  -- and they are four at most
  pub few_fit : length (fitting o) ≤ 4
  few_fit = omega (arith, fitting_most)

  -- where all blocks fit, none is left out
  pub fits : length (held o.blocks) ≤ block_room (length (others_written o)) → fitting o ≡ held o.blocks
  unfolding fitting
  fits few = take_all _ (held o.blocks) few

  pub length_parts : length (options_written o) ≡ length (others_written o) + length (sack_written (fitting o))
  unfolding options_written
  length_parts = length-append (others_written o) (sack_written (fitting o))

  pub aligned_options : Aligned (options_written o) 40
  aligned_options =
      let left : ℕ = 40 - length (others_written o) in
      let sack : Aligned (sack_written (fitting o)) left = aligned_sack (fitting o) left (omega (arith, aligned_others.most)) (omega (arith, fitting_most)) in
      record {
        whole = omega (arith, length_parts, aligned_others.whole, sack.whole);
        most = omega (arith, length_parts, aligned_others.most, sack.most);
      }

  pub options_most : length (options_written o) ≤ 40
  options_most = aligned_options.most

  -- whichever way the blocks that fit are known
  pub length_with : (bs : List Range) → bs ≡ fitting o → length (others_written o) + length (sack_written bs) ≡ length (options_written o)
  length_with bs are = omega (arith, length_parts, ap (λ (l : List Range). length (sack_written l)) are)

  -- of 4 octets, as the data offset counts them
  abbrev pub units : ℕ
  units = length (options_written o) / 4

  pub length_options : length (options_written o) ≡ 4 * units
  length_options = omega (arith, aligned_options.whole)

  pub units_most : units ≤ 10
  units_most = omega (arith, aligned_options.most)

pub length_header : (h : Header) (n : ℕ) → length (header_written h n) ≡ 20
unfolding header_written big_endian
length_header h n = refl

pub length_written : (h : Header) (o : Options) → length (written h o) ≡ 20 + length (options_written o)
unfolding written
length_written h o = omega (arith, length_header h (5 + units o), length-append (header_written h (5 + units o)) (options_written o))
