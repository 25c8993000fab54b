-- The blocks of a SACK option: the list that a value holds, and the value that holds a list.
use Rattle.std.specs.Prelude.{ℕ, ◌-◌, ◌≤◌, List, ◌++◌, ◌≡◌, drop, length, replicate, take}
use Rattle.std.proofs.Common.{arith, length-append}
use Rattle.std.proofs.Math.Seq.{drop-append_seam}
use Rattle.std.proofs.lemmas.List.{length-replicate, length-take}
use Rattle.serial.specs.Serial.{range}
use Rattle.serial.specs.declared.Range.{Range}
use Rattle.segment.specs.declared.sack_blocks.SackBlocks.{SackBlocks}

-- the blocks of a value, in their order
abbrev pub held : SackBlocks → List Range
held a = take a.count a.blocks

-- unused places after so many blocks
abbrev pub unused : ℕ → List Range
unused count = replicate (4 - count) (range 0 0)

-- The first four of a list stand in four places, and unused places come after them.
pub first_few : (blocks : List Range) → length (take 4 blocks) ≤ 4
first_few blocks = omega (arith, length-take 4 blocks)

pub first_whole : (blocks : List Range) → length (take 4 blocks ++ unused (length (take 4 blocks))) ≡ 4
first_whole blocks =
    let first : List Range = take 4 blocks in
    omega (arith, first_few blocks, length-append first (unused (length first)), length-replicate (4 - length first) (range 0 0))

pub first_padded : (blocks : List Range)
    → drop (length (take 4 blocks)) (take 4 blocks ++ unused (length (take 4 blocks))) ≡ unused (length (take 4 blocks))
first_padded blocks = drop-append_seam (take 4 blocks) (unused (length (take 4 blocks)))

-- the value that holds the first four of a list
abbrev pub padded : List Range → SackBlocks
padded blocks = record {
  blocks = take 4 blocks ++ unused (length (take 4 blocks));
  count = length (take 4 blocks);
  whole = first_whole blocks;
  few = first_few blocks;
  padded = first_padded blocks;
}
