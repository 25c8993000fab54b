-- What the contracts of private functions cite: what the reader notes of the options while the rules run, and how far a step reaches. No
-- promise of the crate rests on these.
use Rattle.std.specs.List.{prefix_len}
use Rattle.std.specs.Prelude.{ℕ, ◌+◌, ◌-◌, ◌*◌, ◌≤◌, ◌<◌, ◌==◌, Bool, true, cond, List, [], ◌∷◌, ◌++◌, ◌≡◌, drop, get_or, length, take, IfSome}
use Rattle.std.specs.Prelude as std
use Rattle.std.proofs.Math.Option.{Option, none, some}
use Rattle.segment.specs.Grammar.{Step, padding_rule}
use Rattle.segment.specs.Options.{Fault, Found, fault_in, found, is_known, nothing, option_in, option_of, skipped_in, stands_in, up_to_fault}
use Rattle.segment.specs.Part.{Inside}
use Rattle.segment.specs.Reading.{fault_place, matching, number_of}
use Rattle.segment.specs.declared.Refusal.{Refusal}
use Rattle.segment.specs.declared.notes.Notes.{Notes}

-- the place of an option
abbrev pub place_of : Found → std.Option ℕ
place_of nothing = std.None
place_of (found place octets) = std.Some place

-- what is noted of the options among some steps: the place of each known one, and how many others there are
pub record Noted (steps : List Step) (notes : Notes) : Type 0 where
  pub places : (kind : ℕ) → is_known kind ≡ true → get_or notes.places kind std.None ≡ place_of (option_of kind steps)
  pub skipped : notes.skipped ≡ skipped_in steps
  pub no_fault : notes.refusal ≡ std.None

-- a step takes an octet at least, and an option that is skipped two, so that the counts stay within the octets up to a place
pub record Room (notes : Notes) (at : ℕ) : Type 0 where
  pub kinds : length notes.places ≡ 9
  pub steps_most : notes.steps ≤ at
  pub skipped_most : 2 * notes.skipped ≤ at

-- a refusal's place, 0 where it has none
abbrev pub place_or_0 : Option ℕ → ℕ
place_or_0 none = 0
place_or_0 (some place) = place

-- the fault that the rules note
abbrev pub fault_of : std.Option Refusal → Option Fault
fault_of std.None = none
fault_of (std.Some why) = some (record { number = number_of why; place = place_or_0 (fault_place why) })

-- what the rules make of some steps that follow others, of which `earlier` counted: the first fault, or what is noted of all; and how many
-- steps then count
pub record Outcome (before : List Step) (earlier : ℕ) (steps : List Step) (notes : Notes) : Type 0 where
  pub fault_is : fault_in before steps ≡ fault_of notes.refusal
  pub noted : notes.refusal ≡ std.None → Noted (before ++ steps) notes
  pub counted : notes.steps ≡ earlier + length (up_to_fault before steps)

-- what a rule notes, from notes that are those of the steps before
abbrev pub Answers : List Step → Notes → Notes → Type 0
Answers steps notes after = (before : List Step) → Noted before notes → Outcome before notes.steps steps after

-- how many NOPs stand at the start
abbrev pub nops_in : List ℕ → ℕ
nops_in left = prefix_len (λ octet. octet == 1) left

-- each octet from a place up to another is a NOP, and one step: what follows them then decides
abbrev pub NopsPassed : List ℕ → ℕ → ℕ → Type 0
NopsPassed header from at =
    (before : List Step) (earlier : ℕ) (notes : Notes) → Outcome before (earlier + (at - from)) (padding_rule at (drop at header)) notes
    → Outcome before earlier (padding_rule from (drop from header)) notes

-- the first place that has no NOP
pub record AfterNops (header : List ℕ) (from at : ℕ) : Type 0 where
  pub forward : from ≤ at
  pub within : at ≤ length header
  pub no_nop : at < length header → get_or header at 0 ≡ 1 → ⊥
  pub passed : NopsPassed header from at

-- an option of the segment, of this kind and of at least n octets
pub record Stands (s : List ℕ) (kind n place : ℕ) (octets : List ℕ) : Type 0 where
  pub inside : Inside s (kind ∷ []) place octets
  pub least : n ≤ length octets

-- the same of what is found, if anything is
abbrev pub StandsIf : List ℕ → ℕ → ℕ → Found → Type 0
StandsIf s kind n f = (place : ℕ) (octets : List ℕ) → f ≡ found place octets → Stands s kind n place octets

-- the same of each option that has a value, with its kind's least length
pub record StandAll (s : List ℕ) (steps : List Step) : Type 0 where
  pub mss : StandsIf s 2 4 (option_of 2 steps)
  pub scale : StandsIf s 3 3 (option_of 3 steps)
  pub sack : StandsIf s 5 10 (option_of 5 steps)
  pub timestamps : StandsIf s 8 10 (option_of 8 steps)

-- whether a list of kinds asks for an option of this kind
abbrev pub is_listed : List ℕ → ℕ → Bool
is_listed kinds kind = stands_in kind (matching kinds)

-- what is found from a place on, by how many octets its step has
abbrev pub found_by : List ℕ → List ℕ → ℕ → std.Option ℕ → Found
found_by kinds header at std.None = nothing
found_by kinds header at (std.Some n) =
    cond (is_listed kinds (get_or header at 0)) (found at (take n (drop at header)))
    (option_in (matching kinds) (padding_rule (at + n) (drop (at + n) header)))

-- a step at a place: 1 octet for a NOP, an option's length, and none where the list ends or the option is broken
pub record Reaches (header : List ℕ) (at : ℕ) (octets : std.Option ℕ) : Type 0 where
  pub least : IfSome octets (λ n. 0 < n)
  pub within : IfSome octets (λ n. at + n ≤ length header)
  pub finds : (kinds : List ℕ) → option_in (matching kinds) (padding_rule at (drop at header)) ≡ found_by kinds header at octets
