-- SACK blocks that are written are read back. Assumes nothing.
use mathlib.Core.List.{List, [], ◌∷◌, ◌++◌, append_assoc}
use mathlib.Core.Path.{◌≡◌, refl, sym, ap, ◌∙◌}
use Prim.Native.Nat.{ℕ, suc, ◌+◌, ◌-◌, ◌/◌}
use native.Mathlib.Omega.{arith}
use lib.ListN.{length, length-append, take}
use Rattle.serial.specs.declared.Range.{Range}
use Rattle.octets.specs.Octets.{big_endian, number_at}
use Rattle.octets.proofs.ReadBack.{number_at_big_endian, number_at_within}
use Rattle.segment.specs.Options.{blocks_from, blocks_in}
use Rattle.writer.specs.Writing.{blocks_written}
use Rattle.writer.proofs.Lengths.{length_blocks}

-- blocks that are written after other octets are read back
blocks_from_back : (front : List ℕ) (bs : List Range) → blocks_from (length bs) (front ++ blocks_written bs) (length front) ≡ bs
unfolding blocks_from blocks_written big_endian
blocks_from_back front [] = refl
blocks_from_back front (b ∷ bs) =
    let left : List ℕ = big_endian 4 b.left.0 in
    let right : List ℕ = big_endian 4 b.right.0 in
    let octets : List ℕ = front ++ (left ++ (right ++ blocks_written bs)) in
    let past_left : octets ≡ (front ++ left) ++ (right ++ blocks_written bs) = sym (append_assoc front left (right ++ blocks_written bs)) in
    let past_right : octets ≡ (front ++ (left ++ right)) ++ blocks_written bs = sym (append_assoc front (left ++ right) (blocks_written bs)) in
    let first : number_at 4 octets (length front) ≡ b.left.0 =
    number_at_within 4 front (left ++ (right ++ blocks_written bs)) ∙ number_at_big_endian 3 b.left.0 (right ++ blocks_written bs) in
    let second : number_at 4 octets (length front + 4) ≡ b.right.0 =
    rw (past_left, ← length-append front left)
    (number_at_within 4 (front ++ left) (right ++ blocks_written bs) ∙ number_at_big_endian 3 b.right.0 (blocks_written bs)) in
    let later : blocks_from (length bs) octets (length front + 8) ≡ bs =
    rw (past_right, ← length-append front (left ++ right)) (blocks_from_back (front ++ (left ++ right)) bs) in
    λ i. record { left = record { 0 = first i }; right = record { 0 = second i } } ∷ later i

-- the blocks of a SACK option
pub sack_back : (b : Range) (bs : List Range) (n : ℕ) → blocks_in (5 ∷ n ∷ blocks_written (b ∷ bs)) ≡ take 4 (b ∷ bs)
unfolding blocks_from
sack_back b bs n =
    let octets : List ℕ = 5 ∷ n ∷ blocks_written (b ∷ bs) in
    let more : (length octets - 10) / 8 ≡ length bs = omega (arith, length_blocks (b ∷ bs)) in
    ap (λ (k : ℕ). take 4 (blocks_from (suc k) octets 2)) more
    ∙ ap (take 4) (blocks_from_back (5 ∷ n ∷ []) (b ∷ bs))
