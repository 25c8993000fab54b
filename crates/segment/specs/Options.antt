-- What the options say, and which are refused (document 01, "Reading a segment" and "Numbers given when work is declined"); where the first
-- fault stands, and how many options are skipped (document 02, P6); which steps count (P8).
use Rattle.std.specs.Prelude.{ℕ, zero, suc, ◌+◌, ◌-◌, ◌/◌, Bool, true, false, cond, not, ◌&&◌, ◌||◌, List, [], ◌∷◌, ◌++◌, map, eqb, get_or, length, take}
use Rattle.std.specs.Prelude as std
use Rattle.std.proofs.Math.Option.{Option, none, some}
use Rattle.laws.specs.Lists.{filter}
use Rattle.octets.specs.Octets.{number_at}
use Rattle.serial.specs.Serial.{range}
use Rattle.serial.specs.declared.Range.{Range}
use Rattle.segment.specs.Grammar.{Step, nop, end, whole, broken}
use Rattle.segment.specs.SackBlocks.{padded}
use Rattle.segment.specs.declared.Options.{Options}
use Rattle.segment.specs.declared.Timestamps.{Timestamps}

-- whether a number stands in a list
unfoldable pub stands_in : ℕ → List ℕ → Bool
stands_in n [] = false
stands_in n (x ∷ xs) = eqb n x || stands_in n xs

-- the known kinds, each with its lengths
abbrev pub known_kinds : List (ℕ × List ℕ)
known_kinds =
    (2, 4 ∷ [])  -- MSS
    ∷ (3, 3 ∷ [])  -- window scale
    ∷ (4, 2 ∷ [])  -- SACK-permitted
    ∷ (5, 10 ∷ 18 ∷ 26 ∷ 34 ∷ [])  -- SACK
    ∷ (8, 10 ∷ [])  -- timestamps
    ∷ []

abbrev pub is_known : ℕ → Bool
is_known kind = stands_in kind (map (λ k. k.0) known_kinds)

-- the lengths that a table gives to a kind
unfoldable pub lengths_of : ℕ → List (ℕ × List ℕ) → List ℕ
lengths_of kind [] = []
lengths_of kind (k ∷ ks) = cond (eqb kind k.0) k.1 (lengths_of kind ks)

-- an option, with its place in the segment and its octets, or none
pub data Found : Type 0 where
  found : ℕ → List ℕ → Found
  nothing : Found

abbrev pub is_found : Found → Bool
is_found (found at octets) = true
is_found nothing = false

-- the first option whose kind stands in a list
unfoldable pub option_in : List ℕ → List Step → Found
option_in kinds [] = nothing
option_in kinds (nop at ∷ later) = option_in kinds later
option_in kinds (end at ∷ later) = option_in kinds later
option_in kinds (broken at ∷ later) = option_in kinds later
option_in kinds (whole at octets ∷ later) = cond (stands_in (get_or octets 0 0) kinds) (found at octets) (option_in kinds later)

-- the option of a kind
abbrev pub option_of : ℕ → List Step → Found
option_of kind steps = option_in (kind ∷ []) steps

-- E5: known kind, wrong length
unfoldable pub is_wrong_length : ℕ → ℕ → Bool
is_wrong_length kind n = is_known kind && not (stands_in n (lengths_of kind known_kinds))

-- E6: known kind a second time, that is, it stands among the options before
unfoldable pub is_repeated : List Step → ℕ → Bool
is_repeated before kind = is_known kind && is_found (option_of kind before)

-- E4, E5, E6 in this order at a step, given the steps before it; 0 where it has no fault
unfoldable pub fault_at : List Step → Step → ℕ
fault_at before (nop at) = 0
fault_at before (end at) = 0
fault_at before (broken at) = 4
fault_at before (whole at octets) =
    let kind = get_or octets 0 0 in
    cond (is_wrong_length kind (length octets)) 5 (cond (is_repeated before kind) 6 0)

-- the place of a step's kind octet in the segment
abbrev pub step_place : Step → ℕ
step_place (nop at) = at
step_place (end at) = at
step_place (broken at) = at
step_place (whole at octets) = at

-- what is wrong with an option: E4, E5 or E6, and the place of its kind octet in the segment
pub record Fault : Type 0 where
  pub number : ℕ
  pub place : ℕ

-- the first fault from the left, given the steps before
unfoldable pub fault_in : List Step → List Step → Option Fault
fault_in before [] = none
fault_in before (step ∷ later) =
    let number = fault_at before step in
    let after = fault_in (before ++ (step ∷ [])) later in
    cond (eqb number 0) after (some (record { number = number; place = step_place step }))

-- the steps up to and with the first one at fault, given the steps before; all of them where none is
unfoldable pub up_to_fault : List Step → List Step → List Step
up_to_fault before [] = []
up_to_fault before (step ∷ later) = step ∷ cond (eqb (fault_at before step) 0) (up_to_fault (before ++ (step ∷ [])) later) []

-- an option that is skipped: it has a length, and its kind is not known
abbrev pub is_skipped : Step → Bool
is_skipped (nop at) = false
is_skipped (end at) = false
is_skipped (broken at) = false
is_skipped (whole at octets) = not (is_known (get_or octets 0 0))

-- how many options are skipped
abbrev pub skipped_in : List Step → ℕ
skipped_in steps = length (filter is_skipped steps)

-- TSval, then TSecr
abbrev pub timestamps_in : List ℕ → Timestamps
timestamps_in octets = record { value = record { 0 = number_at 4 octets 2 }; echoed = record { 0 = number_at 4 octets 6 } }

-- a block of a SACK option: left edge, then right edge
abbrev pub block_at : List ℕ → ℕ → Range
block_at octets at = range (number_at 4 octets at) (number_at 4 octets (at + 4))

-- n blocks from a place on
unfoldable pub blocks_from : ℕ → List ℕ → ℕ → List Range
blocks_from zero octets at = []
blocks_from (suc n) octets at = block_at octets at ∷ blocks_from n octets (at + 8)

-- length 10 has one block, and each 8 octets beyond it one more, to at most four
abbrev pub blocks_in : List ℕ → List Range
blocks_in octets = take 4 (block_at octets 2 ∷ blocks_from ((length octets - 10) / 8) octets 10)

-- Each field is the value of the option of its kind.
abbrev pub mss_of : Found → std.Option ℕ
mss_of nothing = std.None
mss_of (found at octets) = std.Some (number_at 2 octets 2)

abbrev pub scale_of : Found → std.Option ℕ
scale_of nothing = std.None
scale_of (found at octets) = std.Some (get_or octets 2 0)

abbrev pub timestamps_of : Found → std.Option Timestamps
timestamps_of nothing = std.None
timestamps_of (found at octets) = std.Some (timestamps_in octets)

abbrev pub blocks_of : Found → List Range
blocks_of nothing = []
blocks_of (found at octets) = blocks_in octets

unfoldable pub options_of : List Step → Options
options_of steps = record {
  mss = mss_of (option_of 2 steps);
  scale = scale_of (option_of 3 steps);
  permitted = is_found (option_of 4 steps);
  blocks = padded (blocks_of (option_of 5 steps));
  timestamps = timestamps_of (option_of 8 steps);
}
