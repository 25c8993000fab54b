-- An option of each known kind, written in front of others, is read as what it says: one law for each kind, for whoever writes a segment.
-- Assumes nothing.
use mathlib.Core.Bool.{Bool, true, false}
use mathlib.Core.List.{List, [], ◌∷◌, ◌++◌}
use mathlib.Core.Path.{◌≡◌, refl, sym, subst, ◌∙◌}
use Prim.Native.Nat.{ℕ, zero, suc, ◌+◌, ◌*◌, ◌≤◌}
use native.Mathlib.Omega.{arith}
use lib.Seq.{take_all}
use lib.ListN.{length}
use Rattle.serial.specs.declared.Range.{Range}
use Rattle.octets.specs.Octets.{big_endian, number_at}
use Rattle.octets.proofs.ReadBack.{number_at_big_endian}
use Rattle.std.specs.Prelude.{Option, Some, None}
use Rattle.segment.specs.Grammar.{Step}
use Rattle.segment.specs.Options.{Found, blocks_of, found, is_found, is_repeated, is_wrong_length, lengths_of, mss_of, nothing, option_of, options_of, scale_of, stands_in, timestamps_of}
use Rattle.segment.specs.SackBlocks.{held, padded}
use Rattle.segment.specs.declared.Options.{Options}
use Rattle.segment.specs.declared.Timestamps.{Timestamps}
use Rattle.segment.proofs.HeldBlocks.{held_found}
use Rattle.segment.proofs.OptionsRead.{Reads, option_read}
use Rattle.writer.specs.Writing.{blocks_written, stamps_written}
use Rattle.writer.proofs.BlockLists.{sack_back}
use Rattle.writer.proofs.Lengths.{length_blocks}

-- Options with one field set.
abbrev pub with_mss : Options → Option ℕ → Options
with_mss o x = record { mss = x; scale = o.scale; permitted = o.permitted; blocks = o.blocks; timestamps = o.timestamps }

abbrev pub with_scale : Options → Option ℕ → Options
with_scale o x = record { mss = o.mss; scale = x; permitted = o.permitted; blocks = o.blocks; timestamps = o.timestamps }

abbrev pub with_permitted : Options → Bool → Options
with_permitted o x = record { mss = o.mss; scale = o.scale; permitted = x; blocks = o.blocks; timestamps = o.timestamps }

abbrev pub with_blocks : Options → List Range → Options
with_blocks o x = record { mss = o.mss; scale = o.scale; permitted = o.permitted; blocks = padded x; timestamps = o.timestamps }

abbrev pub with_timestamps : Options → Option Timestamps → Options
with_timestamps o x = record { mss = o.mss; scale = o.scale; permitted = o.permitted; blocks = o.blocks; timestamps = x }

-- Where the value is that of no option, no option is found.
not_found : {A : Type 0} (value : Found → A) (none : A) → ((at : ℕ) (octets : List ℕ) → value (found at octets) ≡ none → ⊥)
    → (f : Found) → value f ≡ none → is_found f ≡ false
not_found value none some nothing e = refl
not_found value none some (found at octets) e = absurd (some at octets e)

-- A kind whose field says that there is none is new.
module _ (before : List Step) where
  mss_new : (options_of before).mss ≡ None → is_repeated before 2 ≡ false
  unfolding options_of is_repeated stands_in
  mss_new = not_found mss_of None (λ at octets e. cc) (option_of 2 before)

  scale_new : (options_of before).scale ≡ None → is_repeated before 3 ≡ false
  unfolding options_of is_repeated stands_in
  scale_new = not_found scale_of None (λ at octets e. cc) (option_of 3 before)

  permitted_new : (options_of before).permitted ≡ false → is_repeated before 4 ≡ false
  unfolding options_of is_repeated stands_in
  permitted_new e = e

  sack_new : held (options_of before).blocks ≡ [] → is_repeated before 5 ≡ false
  unfolding options_of is_repeated stands_in
  sack_new e = not_found blocks_of [] (λ at octets e. cc) (option_of 5 before) (sym (held_found (option_of 5 before)) ∙ e)

  timestamps_new : (options_of before).timestamps ≡ None → is_repeated before 8 ≡ false
  unfolding options_of is_repeated stands_in
  timestamps_new = not_found timestamps_of None (λ at octets e. cc) (option_of 8 before)

sack_length : (n : ℕ) → n ≤ 3 → is_wrong_length 5 (8 * suc n + 2) ≡ false
unfolding is_wrong_length lengths_of stands_in
sack_length zero few = refl
sack_length (suc zero) few = refl
sack_length (suc (suc zero)) few = refl
sack_length (suc (suc (suc zero))) few = refl
sack_length (suc (suc (suc (suc n)))) few = absurd (omega arith)

module _ {o : Options} {rest : List ℕ} {o' : Options} where
  pub mss_read : (n : ℕ) → o.mss ≡ None → Reads (with_mss o (Some n)) rest o' → Reads o (2 ∷ 4 ∷ (big_endian 2 n ++ rest)) o'
  unfolding is_wrong_length lengths_of stands_in big_endian number_at
  mss_read n new then =
      option_read 2 4 (big_endian 2 n) (omega arith) refl refl refl (λ before said. mss_new before (rw said new))
      (subst (λ (x : ℕ). Reads (with_mss o (Some x)) rest o') (sym (number_at_big_endian 1 n [])) then)

  pub scale_read : (n : ℕ) → o.scale ≡ None → Reads (with_scale o (Some n)) rest o' → Reads o (3 ∷ 3 ∷ n ∷ rest) o'
  unfolding is_wrong_length lengths_of stands_in
  scale_read n new then =
      option_read 3 3 (n ∷ []) (omega arith) refl refl refl (λ before said. scale_new before (rw said new)) then

  pub permitted_read : o.permitted ≡ false → Reads (with_permitted o true) rest o' → Reads o (4 ∷ 2 ∷ rest) o'
  unfolding is_wrong_length lengths_of stands_in
  permitted_read new then =
      option_read 4 2 [] (omega arith) refl refl refl (λ before said. permitted_new before (rw said new)) then

  pub timestamps_read : (t : Timestamps) → o.timestamps ≡ None
      → Reads (with_timestamps o (Some t)) rest o' → Reads o (stamps_written t ++ rest) o'
  unfolding is_wrong_length lengths_of stands_in big_endian number_at
  timestamps_read t new then =
      option_read 8 10 (big_endian 4 t.value.0 ++ big_endian 4 t.echoed.0) (omega arith) refl refl refl
      (λ before said. timestamps_new before (rw said new))
      (subst (λ (x : Timestamps). Reads (with_timestamps o (Some x)) rest o') (λ i. record {
        value = record { 0 = sym (number_at_big_endian 3 t.value.0 []) i };
        echoed = record { 0 = sym (number_at_big_endian 3 t.echoed.0 []) i };
      }) then)

  -- one to four blocks
  pub sack_read : (b : Range) (bs : List Range) → length bs ≤ 3 → held o.blocks ≡ []
      → Reads (with_blocks o (b ∷ bs)) rest o'
      → Reads o (5 ∷ (8 * length (b ∷ bs) + 2) ∷ (blocks_written (b ∷ bs) ++ rest)) o'
  unfolding stands_in
  sack_read b bs few new then =
      let n : ℕ = 8 * length (b ∷ bs) + 2 in
      option_read 5 n (blocks_written (b ∷ bs)) (omega arith) refl (omega (arith, length_blocks (b ∷ bs))) (sack_length (length bs) few)
      (λ before said. sack_new before (rw said new))
      (subst (λ (x : List Range). Reads (with_blocks o x) rest o') (sym (sack_back b bs n ∙ take_all 4 (b ∷ bs) (omega arith))) then)
