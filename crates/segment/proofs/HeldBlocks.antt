-- A value of SACK blocks is known by the list that it holds. Assumes nothing.
use mathlib.Core.HLevel.{is_prop→PathP}
use mathlib.Core.List.{List, ◌∷◌, ◌++◌}
use mathlib.Core.Path.{◌≡◌, refl, sym, ap, ◌∙◌}
use Prim.Native.Nat.{ℕ, ◌-◌, ◌/◌, ◌≤◌}
use native.Mathlib.Bridge.{le_prop}
use native.Mathlib.Nat.{ℕ_set}
use native.Mathlib.Omega.{arith}
use lib.ListN.{drop, length, take}
use lib.Seq.{length-take-le, take_all, take-append_seam}
use Rattle.std.proofs.lemmas.List.{take-append-drop}
use Rattle.std.specs.Coded.{Coded-set, code_by, coded×, coded_list, coded_ℕ}
use Rattle.serial.specs.Serial.{range}
use Rattle.serial.specs.declared.Range.{Range}
use Rattle.segment.specs.Options.{Found, block_at, blocks_from, blocks_of, found, nothing}
use Rattle.segment.specs.SackBlocks.{first_few, held, padded, unused}
use Rattle.segment.specs.declared.sack_blocks.SackBlocks.{SackBlocks}

-- so many blocks, and unused places after them
module _ (a : SackBlocks) where
  pub held_length : length (held a) ≡ a.count
  held_length = length-take-le a.count a.blocks (omega (arith, a.whole, a.few))

  pub held_few : length (held a) ≤ 4
  held_few = omega (arith, held_length, a.few)

  pub places : a.blocks ≡ held a ++ unused a.count
  places = sym (take-append-drop a.count a.blocks) ∙ ap (λ rest. held a ++ rest) a.padded

-- Equal lists are equal values: what stands after the blocks is alike, and an order or an equation has one proof.
ranges_set : (a b : List Range) → IsProp (a ≡ b)
ranges_set = Coded-set (coded_list (code_by (ℕ × ℕ) (coded× coded_ℕ coded_ℕ) (λ r. (r.left.0, r.right.0)) (λ p. range p.0 p.1) (λ _. refl)))

pub same_blocks : (a b : SackBlocks) → held a ≡ held b → a ≡ b
same_blocks a b e =
    let count : a.count ≡ b.count = sym (held_length a) ∙ ap length e ∙ held_length b in
    let blocks : a.blocks ≡ b.blocks = places a ∙ (λ i. e i ++ unused (count i)) ∙ sym (places b) in
    λ i. record {
      blocks = blocks i;
      count = count i;
      whole = is_prop→PathP (λ j. length (blocks j) ≡ 4) (λ j. ℕ_set (length (blocks j)) 4) a.whole b.whole i;
      few = is_prop→PathP (λ j. count j ≤ 4) (λ j. le_prop) a.few b.few i;
      padded = is_prop→PathP (λ j. drop (count j) (blocks j) ≡ unused (count j))
          (λ j. ranges_set (drop (count j) (blocks j)) (unused (count j))) a.padded b.padded i;
    }

pub held_padded : (l : List Range) → held (padded l) ≡ take 4 l
held_padded l = take-append_seam (take 4 l) (unused (length (take 4 l)))

pub held_all : (l : List Range) → length l ≤ 4 → held (padded l) ≡ l
held_all l few = held_padded l ∙ take_all 4 l few

pub padded_held : (a : SackBlocks) → padded (held a) ≡ a
padded_held a = same_blocks (padded (held a)) a (held_all (held a) (held_few a))

-- a value by the list that it holds
pub is_padded : (a : SackBlocks) (l : List Range) → held a ≡ l → a ≡ padded l
is_padded a l e = sym (padded_held a) ∙ ap padded e

-- what an option says: at most four blocks, however long it is
pub held_found : (f : Found) → held (padded (blocks_of f)) ≡ blocks_of f
held_found nothing = refl
held_found (found at octets) =
    let blocks : List Range = block_at octets 2 ∷ blocks_from ((length octets - 10) / 8) octets 10 in
    held_all (take 4 blocks) (first_few blocks)
