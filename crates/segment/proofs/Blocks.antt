-- The blocks of a SACK option in the segment. Assumes nothing.
use mathlib.Core.List.{List, [], ◌∷◌, ◌++◌}
use mathlib.Core.Path.{◌≡◌, refl, ap, ◌∙◌}
use Prim.Native.Nat.{ℕ, zero, suc, ◌+◌, ◌*◌, ◌≤◌}
use native.Mathlib.Nat.{add_assoc}
use native.Mathlib.Omega.{arith}
use lib.ListN.{length, take}
use Rattle.octets.specs.Octets.{number_at}
use Rattle.serial.specs.declared.Range.{Range}
use Rattle.segment.specs.Internal.{Stands}
use Rattle.segment.specs.Options.{block_at, blocks_from}
use Rattle.segment.proofs.Standing.{number_there}

-- the first n of a list with one more, by the first n of the list
pub take_again : {A : Type 0} (n : ℕ) (l rest : List A) → take n (take n l ++ rest) ≡ take n (l ++ rest)
take_again zero l rest = refl
take_again (suc n) [] rest = refl
take_again (suc n) (x ∷ l) rest = ap (λ r. x ∷ r) (take_again n l rest)

-- n blocks and one more
pub one_more_block : (n : ℕ) (octets : List ℕ) (at : ℕ) → blocks_from (suc n) octets at ≡ blocks_from n octets at ++ (block_at octets (at + 8 * n) ∷ [])
unfolding blocks_from
one_more_block zero octets at = ap (λ (k : ℕ). block_at octets k ∷ []) (omega arith)
one_more_block (suc n) octets at =
    ap (λ (l : List Range). block_at octets at ∷ l)
    (one_more_block n octets (at + 8) ∙ ap (λ (k : ℕ). blocks_from n octets (at + 8) ++ (block_at octets k ∷ [])) (omega arith))

-- a block of the option is the one in the segment, and so are the blocks
module _ {s : List ℕ} {kind least place : ℕ} {octets : List ℕ} (st : Stands s kind least place octets) where
  block_there : (i : ℕ) → i + 8 ≤ length octets → block_at s (place + i) ≡ block_at octets i
  block_there i h =
      let left : number_at 4 s (place + i) ≡ number_at 4 octets i = number_there st 4 i (omega arith) in
      let right : number_at 4 s (place + i + 4) ≡ number_at 4 octets (i + 4) =
      ap (number_at 4 s) (add_assoc place i 4) ∙ number_there st 4 (i + 4) (omega arith) in
      λ j. record { left = record { 0 = left j }; right = record { 0 = right j } }

  pub blocks_there : (n i : ℕ) → i + 8 * n ≤ length octets → blocks_from n s (place + i) ≡ blocks_from n octets i
  unfolding blocks_from
  blocks_there zero i h = refl
  blocks_there (suc n) i h =
      let here : block_at s (place + i) ≡ block_at octets i = block_there i (omega arith) in
      let later : blocks_from n s (place + i + 8) ≡ blocks_from n octets (i + 8) =
      ap (blocks_from n s) (add_assoc place i 8) ∙ blocks_there n (i + 8) (omega arith) in
      λ j. here j ∷ later j
