-- The known options of a segment without fault stand in it, each with a length of its kind, and have their values there. Assumes nothing.
use mathlib.Core.Bool.{Bool, true, false, cond, ◌&&◌, ◌||◌, true≢false}
use mathlib.Core.List.{List, [], ◌∷◌, ◌++◌}
use mathlib.Core.Option.{Option, none, some, some-ne-none}
use mathlib.Core.Path.{◌≡◌, refl, sym, ap, ◌∙◌}
use Prim.Native.Nat.{ℕ, zero, suc, ◌+◌, ◌*◌, ◌^◌, ◌≤◌}
use native.Mathlib.Nat.{add-suc}
use native.Mathlib.Omega.{arith}
use lib.Dec.{eqb, leb}
use lib.ListN.{get_or, length}
use Rattle.std.specs.Prelude.{Some, None, is_some}
use borrow.Author.Tests.{eqb-true, leb-true, not-false}
use Rattle.octets.specs.Octets.{number_at}
use Rattle.segment.specs.Grammar.{Step, broken, end, nop, whole}
use Rattle.segment.specs.Options.{Fault, Found, fault_at, fault_in, found, is_found, is_known, is_wrong_length, known_kinds, lengths_of, nothing, option_in, option_of, stands_in}
use Rattle.segment.specs.Internal.{Stands, StandAll, StandsIf, place_of}
use Rattle.segment.specs.Reading.{data_offset, steps_of}
use Rattle.segment.proofs.Inside.{in_segment, none_found, octets_of}

-- an option has a place exactly if it is there
pub none_there : (f : Found) → None ≡ place_of f → f ≡ nothing
none_there nothing e = refl
none_there (found at octets) e = cc

pub one_there : (place : ℕ) (f : Found) → Some place ≡ place_of f → (octets : List ℕ) × (f ≡ found place octets)
one_there place nothing e = cc
one_there place (found at octets) e =
    let same : at ≡ place = cc in
    (octets, ap (λ (k : ℕ). found k octets) same)

pub place_found : (f : Found) → is_some (place_of f) ≡ is_found f
place_found nothing = refl
place_found (found at octets) = refl

-- a number of an option is the one in the segment
pub number_there : {s : List ℕ} {kind n place : ℕ} {octets : List ℕ} → Stands s kind n place octets → (w i : ℕ) → i + w ≤ length octets
    → number_at w s (place + i) ≡ number_at w octets i
unfolding number_at
number_there st zero i h = refl
number_there {s} {kind} {n} {place} {octets} st (suc w) i h =
    let octet : get_or s (place + i) 0 ≡ get_or octets i 0 = sym (st.inside.octets_there i (omega arith)) in
    let lower : number_at w s (suc (place + i)) ≡ number_at w octets (suc i) =
    ap (number_at w s) (sym (add-suc place i)) ∙ number_there st w (suc i) (omega arith) in
    λ j. octet j * 256 ^ w + lower j

-- Without fault, each known option has a length of its kind.
both_none : (here : ℕ) (after : Option Fault) (fault : Fault) → cond (eqb here 0) after (some fault) ≡ none → (here ≡ 0) × (after ≡ none)
both_none here after fault e = go (eqb here 0) refl e
  where
    go : (t : Bool) → eqb here 0 ≡ t → cond t after (some fault) ≡ none → (here ≡ 0) × (after ≡ none)
    go true z q = (eqb-true here 0 z, q)
    go false z q = absurd (some-ne-none fault q)

right_length_at : (before : List Step) (at : ℕ) (octets : List ℕ) → fault_at before (whole at octets) ≡ 0 → is_wrong_length (get_or octets 0 0) (length octets) ≡ false
unfolding fault_at
right_length_at before at octets e = go (is_wrong_length (get_or octets 0 0) (length octets)) _ e
  where
    go : (t : Bool) (other : ℕ) → cond t 5 other ≡ 0 → t ≡ false
    go true other e = absurd (omega arith)
    go false other e = refl

right_length : (k : ℕ) (before steps : List Step) → fault_in before steps ≡ none → (place : ℕ) (octets : List ℕ) → option_of k steps ≡ found place octets
    → is_wrong_length k (length octets) ≡ false
unfolding fault_in fault_at option_in stands_in
right_length k before [] e place octets q = none_found place octets q
right_length k before (nop at ∷ later) e place octets q = right_length k (before ++ (nop at ∷ [])) later e place octets q
right_length k before (end at ∷ later) e place octets q = right_length k (before ++ (end at ∷ [])) later e place octets q
right_length k before (broken at ∷ later) e place octets q = absurd (some-ne-none _ e)
right_length k before (whole at o ∷ later) e place octets q =
    let none = both_none (fault_at before (whole at o)) _ _ e in
    go (eqb (get_or o 0 0) k) refl (right_length_at before at o none.0) (right_length k (before ++ (whole at o ∷ [])) later none.1 place octets) q
  where
    go : (t : Bool) → eqb (get_or o 0 0) k ≡ t → is_wrong_length (get_or o 0 0) (length o) ≡ false
        → (option_of k later ≡ found place octets → is_wrong_length k (length octets) ≡ false)
        → cond (t || false) (found at o) (option_of k later) ≡ found place octets → is_wrong_length k (length octets) ≡ false
    go true z right rest q =
        let same : o ≡ octets = ap octets_of q in
        (λ i. is_wrong_length (sym (eqb-true (get_or o 0 0) k z) i) (length (sym same i))) ∙ right
    go false z right rest q = rest q

-- a number that stands in a list of larger ones is not less
all_from : ℕ → List ℕ → Bool
all_from least [] = true
all_from least (x ∷ xs) = leb least x && all_from least xs

from_least : (least n : ℕ) (ls : List ℕ) → all_from least ls ≡ true → stands_in n ls ≡ true → least ≤ n
unfolding all_from stands_in
from_least least n [] a s = absurd (true≢false (sym s))
from_least least n (x ∷ xs) a s = go (leb least x) refl (eqb n x) refl a s (from_least least n xs)
  where
    go : (t : Bool) → leb least x ≡ t → (u : Bool) → eqb n x ≡ u → (t && all_from least xs) ≡ true → (u || stands_in n xs) ≡ true
        → (all_from least xs ≡ true → stands_in n xs ≡ true → least ≤ n) → least ≤ n
    go true l true z a s rest = omega (arith, leb-true least x l, eqb-true n x z)
    go true l false z a s rest = rest a s
    go false l u z a s rest = absurd (true≢false (sym a))

-- Each option that has a value stands in the segment.
module _ (s : List ℕ) (five : 5 ≤ data_offset s) (faultless : fault_in [] (steps_of s) ≡ none) where
  stands : (k least : ℕ) → is_known k ≡ true → all_from least (lengths_of k known_kinds) ≡ true → StandsIf s k least (option_of k (steps_of s))
  unfolding is_wrong_length
  stands k least known from place octets e =
      let right = rw known at (right_length k [] (steps_of s) faultless place octets e) in
      record {
        inside = in_segment (k ∷ []) s place octets five e;
        least = from_least least (length octets) (lengths_of k known_kinds) from (not-false _ right);
      }

  pub stand_all : StandAll s (steps_of s)
  unfolding stands_in lengths_of all_from
  stand_all = record {
    mss = stands 2 4 refl refl;
    scale = stands 3 3 refl refl;
    sack = stands 5 10 refl refl;
    timestamps = stands 8 10 refl refl;
  }
