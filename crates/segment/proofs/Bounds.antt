-- How many steps a segment's options take at most, in document 02's words (P8): "at most 40; at most 20 of them are options with a length".
-- Forty NOPs and twenty options of two octets reach both. Assumes nothing.
use mathlib.Core.Bool.{Bool, true, false, cond}
use mathlib.Core.List.{List, [], ◌∷◌, ◌++◌}
use mathlib.Core.Option.{Option, Option-elim}
use mathlib.Core.Path.{◌≡◌, refl, sym, ap, ◌∙◌}
use Prim.Native.Nat.{ℕ, zero, suc, ◌+◌, ◌*◌, ◌≤◌, ◌<◌}
use native.Mathlib.Omega.{arith}
use lib.Dec.{eqb, leb, ltb}
use lib.ListN.{drop, get_or, length, length-append, length-drop, length-take, replicate, take}
use borrow.Author.Tests.{lt-ltb, ltb-true}
use Rattle.laws.specs.Lists.{any, filter}
use Rattle.laws.proofs.Choices.{either}
use Rattle.laws.proofs.Lists.{filter_append, length_filter}
use Rattle.segment.specs.Grammar.{Step, broken, end, is_broken, length_least, length_most, nop, padding, padding_rule, whole}
use Rattle.segment.specs.Options.{fault_at, fault_in, is_repeated, is_wrong_length, stands_in, step_place, up_to_fault}
use Rattle.segment.specs.Reading.{counted_steps, data_offset, option_octets, options_read, reading, steps_of, steps_taken}
use Rattle.segment.proofs.Induction.{Steps, along_rules}
use Rattle.segment.proofs.Numbers.{Given, faulty, given, offset_low, offset_past, readable, too_long, too_short}
use Rattle.segment.proofs.Readable.{Passed, steps_if}
use Rattle.segment.proofs.Steps.{ShownIn, kind_at}

-- whether a step is an option that has a length octet: one that is broken has none where its kind is the header's last octet
abbrev pub has_length : ℕ → Step → Bool
has_length header_end (nop at) = false
has_length header_end (end at) = false
has_length header_end (broken at) = ltb (at + 1) header_end
has_length header_end (whole at octets) = true

-- each step takes an octet at least, and an option with a length two
abbrev pub FewSteps : ℕ → List ℕ → List Step → Type 0
FewSteps at left steps =
    (length steps ≤ length left)
    × ((header_end : ℕ) → header_end ≡ at + length left → 2 * length (filter (has_length header_end) steps) ≤ length left)

pub few_steps : Steps FewSteps
few_steps = record {
  at_none = λ at. (omega arith, λ e same. omega arith);
  at_end = λ at rest. (omega arith, λ e same. omega arith);
  at_nop = λ at rest later h. (omega (arith, h.0), λ e same. omega (arith, h.1 e (omega (arith, same))));
  at_broken = λ at kind rest two b. (
    omega arith,
    λ e same.
        either (λ (l : List Step). 2 * length l ≤ length (kind ∷ rest)) (ltb (at + 1) e) (broken at ∷ []) []
        (λ t. omega (arith, same, ltb-true (at + 1) e t)) (λ _. omega arith),
  );
  at_whole = λ at kind rest later two b h.
      let left : List ℕ = kind ∷ rest in
      let n : ℕ = get_or left 1 0 in
      let least : 2 ≤ n = length_least left b in
      let most : n ≤ length left = length_most left b in
      let fewer : length (drop n left) + n ≡ length left = omega (arith, length-drop n left, most) in
      (omega (arith, h.0, fewer, least), λ e same. omega (arith, h.1 e (omega (arith, same, fewer)), fewer, least));
}

-- the steps that count are the first of them
up_to_first : (before steps : List Step) → (rest : List Step) × (steps ≡ up_to_fault before steps ++ rest)
unfolding up_to_fault
up_to_first before [] = ([], refl)
up_to_first before (step ∷ later) = go (eqb (fault_at before step) 0) (up_to_first (before ++ (step ∷ [])) later)
  where
    go : (t : Bool) → (rest : List Step) × (later ≡ up_to_fault (before ++ (step ∷ [])) later ++ rest)
        → (rest : List Step) × (step ∷ later ≡ (step ∷ cond t (up_to_fault (before ++ (step ∷ [])) later) []) ++ rest)
    go true (rest, e) = (rest, ap (λ (l : List Step). step ∷ l) e)
    go false found = (later, refl)

-- the first of some steps are no more, of any kind
first_fewer : (p : Step → Bool) (steps first rest : List Step) → steps ≡ first ++ rest
    → (length first ≤ length steps) × (length (filter p first) ≤ length (filter p steps))
first_fewer p steps first rest e =
    let whole = ap length e ∙ length-append first rest in
    let passed = ap (λ (l : List Step). length (filter p l)) e ∙ ap length (filter_append p first rest) ∙ length-append (filter p first) (filter p rest) in
    (omega (arith, whole), omega (arith, passed))

module _ (s : List ℕ) where
  abbrev pub with_length : List Step → ℕ
  with_length steps = length (filter (has_length (4 * data_offset s)) steps)

  -- the steps that count are the first of the grammar's
  pub counted_first : Passed s → (rest : List Step) × (steps_of s ≡ counted_steps s ++ rest)
  counted_first p =
      let first = up_to_first [] (steps_of s) in
      (first.0, first.1 ∙ ap (λ (l : List Step). l ++ first.0) (sym (steps_if s p)))

  -- a step has a length if its kind is neither 0 nor 1 and another octet of the header follows it
  pub length_there : (step : Step) → ShownIn s step → 2 ≤ get_or s (step_place step) 0 → step_place step + 1 < 4 * data_offset s
      → has_length (4 * data_offset s) step ≡ true
  length_there (nop at) h kind more = absurd (omega (arith, h.shows, kind_at s at h.before_payload))
  length_there (end at) h kind more = absurd (omega (arith, h.shows, kind_at s at h.before_payload))
  length_there (broken at) h kind more = lt-ltb (at + 1) (4 * data_offset s) more
  length_there (whole at octets) h kind more = refl

  -- as many steps as octets at most, and half as many with a length
  abbrev Few : List Step → Type 0
  Few steps = (length steps ≤ length (option_octets s)) × (2 * with_length steps ≤ length (option_octets s))

  few_passed : Passed s → Few (counted_steps s)
  few_passed p =
      let first = counted_first p in
      let fewer = first_fewer (has_length (4 * data_offset s)) (steps_of s) (counted_steps s) first.0 first.1 in
      let all = along_rules few_steps 20 (option_octets s) in
      let header : 4 * data_offset s ≡ 20 + length (option_octets s) =
      omega (arith, length-drop 20 (take (4 * data_offset s) s), length-take (4 * data_offset s) s, p.offset_least, p.offset_most) in
      (omega (arith, fewer.0, all.0), omega (arith, fewer.1, all.1 (4 * data_offset s) header))

  few_none : steps_taken s ≡ 0 → Few (counted_steps s)
  few_none e = (omega (arith, e), omega (arith, e, length_filter (has_length (4 * data_offset s)) (counted_steps s)))

  few : (n : ℕ) (place : Option ℕ) (steps : ℕ) → Given s n place steps → steps_taken s ≡ steps → Few (counted_steps s)
  few n place steps (too_short h) e = few_none e
  few n place steps (too_long h) e = few_none e
  few n place steps (offset_low long short h) e = few_none e
  few n place steps (offset_past long short least h) e = few_none e
  few n place steps (faulty p before step after m stands pass j given) e = few_passed p
  few n place steps (readable p pass) e = few_passed p

  -- the data offset has four bits
  module _ (octet : get_or s 12 0 < 256) where
    pub octets_most : length (option_octets s) ≤ 40
    octets_most = omega (arith, length-drop 20 (take (4 * data_offset s) s), length-take (4 * data_offset s) s)

    pub at_most_forty : steps_taken s ≤ 40
    at_most_forty = omega (arith, octets_most, (few _ _ _ (given s) refl).0)

    pub twenty_with_length : with_length (counted_steps s) ≤ 20
    twenty_with_length = omega (arith, octets_most, (few _ _ _ (given s) refl).1)

-- a segment of 60 octets that has these options
abbrev optioned : List ℕ → List ℕ
optioned options = replicate 12 0 ++ ((240 ∷ []) ++ (replicate 7 0 ++ options))

-- so many options of an unknown kind, each of two octets
two_octets : ℕ → List ℕ
two_octets zero = []
two_octets (suc n) = 253 ∷ 2 ∷ two_octets n

-- forty NOPs, twenty options of two octets; no octet is above 255
pub both_reached :
    ((s : List ℕ) × (any (leb 256) s ≡ false) × (steps_taken s ≡ 40))
    × ((s : List ℕ) × (any (leb 256) s ≡ false) × (with_length s (counted_steps s) ≡ 20))
unfolding counted_steps up_to_fault fault_at fault_in reading options_read Option-elim padding_rule padding is_broken is_wrong_length is_repeated stands_in two_octets
both_reached = ((optioned (replicate 40 1), refl, refl), (optioned (two_octets 20), refl, refl))
