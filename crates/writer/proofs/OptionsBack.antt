-- The options that are written are read back. Assumes nothing.
use mathlib.Core.Bool.{Bool, true, false}
use mathlib.Core.List.{List, [], ◌∷◌, ◌++◌, append_assoc, append-nil}
use mathlib.Core.Path.{◌≡◌, refl, sym, subst}
use Prim.Native.Nat.{ℕ, ◌≤◌}
use native.Mathlib.Omega.{arith}
use lib.ListN.{length}
use Rattle.serial.specs.declared.Range.{Range}
use Rattle.std.specs.Prelude.{Option, Some, None}
use Rattle.segment.specs.Options.{option_in, options_of}
use Rattle.segment.specs.SackBlocks.{held}
use Rattle.segment.specs.declared.Options.{Options}
use Rattle.segment.specs.declared.Timestamps.{Timestamps}
use Rattle.segment.specs.declared.sack_blocks.SackBlocks.{SackBlocks}
use Rattle.segment.proofs.HeldBlocks.{is_padded}
use Rattle.segment.proofs.OptionsRead.{Reads, none_read, nop_read}
use Rattle.writer.specs.Writing.{fitting, mss_written, options_written, others_written, sack_written, scale_written, timestamps_written}
use Rattle.writer.proofs.KindsRead.{mss_read, permitted_read, sack_read, scale_read, timestamps_read, with_blocks, with_mss, with_permitted, with_scale, with_timestamps}
use Rattle.writer.proofs.Lengths.{fitting_most}

-- Each part, with other octets after it. A part that is not written leaves its field as it is.
module _ {o : Options} {rest : List ℕ} {o' : Options} where
  mss_part : (mss : Option ℕ) → o.mss ≡ None → Reads (with_mss o mss) rest o' → Reads o (mss_written mss ++ rest) o'
  unfolding mss_written
  mss_part None new then = subst (λ (x : Option ℕ). Reads (with_mss o x) rest o') (sym new) then
  mss_part (Some n) new then = mss_read n new then

  scale_part : (scale : Option ℕ) → o.scale ≡ None → Reads (with_scale o scale) rest o' → Reads o (scale_written scale ++ rest) o'
  unfolding scale_written
  scale_part None new then = subst (λ (x : Option ℕ). Reads (with_scale o x) rest o') (sym new) then
  scale_part (Some n) new then = nop_read (scale_read n new then)

  module _ (plain : o.permitted ≡ false) (new : o.timestamps ≡ None) where
    not_permitted : (t : Option Timestamps) → Reads (with_timestamps (with_permitted o false) t) rest o' → Reads (with_timestamps o t) rest o'
    not_permitted t = subst (λ (x : Bool). Reads (with_timestamps (with_permitted o x) t) rest o') (sym plain)

    no_timestamps : (permitted : Bool) → Reads (with_timestamps (with_permitted o permitted) None) rest o'
        → Reads (with_permitted o permitted) rest o'
    no_timestamps permitted = subst (λ (x : Option Timestamps). Reads (with_timestamps (with_permitted o permitted) x) rest o') (sym new)

    timestamps_part : (permitted : Bool) (t : Option Timestamps) → Reads (with_timestamps (with_permitted o permitted) t) rest o'
        → Reads o (timestamps_written permitted t ++ rest) o'
    unfolding timestamps_written
    timestamps_part false None then = not_permitted o.timestamps (no_timestamps false then)
    timestamps_part true None then = permitted_read plain (nop_read (nop_read (no_timestamps true then)))
    timestamps_part false (Some t) then = nop_read (nop_read (timestamps_read t new (not_permitted (Some t) then)))
    timestamps_part true (Some t) then = permitted_read plain (timestamps_read t new then)

-- the last part
sack_part : {o : Options} (bs : List Range) → length bs ≤ 4 → held o.blocks ≡ [] → Reads o (sack_written bs) (with_blocks o bs)
unfolding sack_written
sack_part {o} [] few new =
    subst (λ (x : SackBlocks). Reads o [] (record { mss = o.mss; scale = o.scale; permitted = o.permitted; blocks = x; timestamps = o.timestamps }))
    (is_padded o.blocks [] new) none_read
sack_part {o} (b ∷ bs) few new = nop_read (nop_read (rw append-nil at (sack_read {o = o} {rest = []} b bs (omega arith) new none_read)))

pub options_back : (o : Options) → Reads (options_of []) (options_written o) (with_blocks o (fitting o))
unfolding options_written others_written options_of option_in
options_back o =
    simp append_assoc (mss_part o.mss refl (timestamps_part refl refl o.permitted o.timestamps
    (scale_part o.scale refl (sack_part (fitting o) (omega (arith, fitting_most o)) refl))))
