-- The place that comes with E4, E5 and E6, in document 02's words (P6): "the offset in the segment of the kind octet at fault". Assumes
-- nothing.
use mathlib.Core.List.{List, ◌∷◌, ◌++◌, Memᴰ}
use mathlib.Core.Option.{Option, some, some-injective, some-ne-none}
use mathlib.Core.Path.{◌≡◌, refl, sym, subst, ◌∙◌}
use Prim.Native.Nat.{ℕ, ◌+◌, ◌*◌, ◌≤◌, ◌<◌}
use lib.ListN.{drop, get_or, take}
use Rattle.laws.specs.Lists.{Each, EachTwo}
use Rattle.segment.specs.Grammar.{Step, whole}
use Rattle.segment.specs.Options.{step_place}
use Rattle.segment.specs.Reading.{data_offset, reading, steps_of, steps_taken}
use Rattle.segment.proofs.Faults.{Broken, Judged, Known, RightLength, broken_only, broken_option, end_passed, first_time, nop_passed, second_time, unknown_kind, wrong_length}
use Rattle.segment.proofs.Membership.{of_each}
use Rattle.segment.proofs.Numbers.{Given, faulty, given, offset_low, offset_past, readable, too_long, too_short}
use Rattle.segment.proofs.Steps.{Before, ShownIn, ascending, each_shown, each_there, earlier_before, kind_at, kind_is, length_is, octets_in, place_counted}

-- what is wrong with the option whose kind octet stands at a place of the segment
pub data Wrong (s : List ℕ) (place : ℕ) : ℕ → Type 0 where
  -- no length octet, a length under 2, or past the header
  broken_there : 2 ≤ get_or s place 0 → Broken (drop place (take (4 * data_offset s) s)) → Wrong s place 4
  wrong_length_there : Known (get_or s place 0) → (RightLength (get_or s place 0) (get_or s (place + 1) 0) → ⊥) → Wrong s place 5
  -- an earlier option has the same kind
  second_there : RightLength (get_or s place 0) (get_or s (place + 1) 0) → (earlier : ℕ) (octets : List ℕ) → Memᴰ (whole earlier octets) (steps_of s)
      → earlier < place → get_or s earlier 0 ≡ get_or s place 0 → Wrong s place 6

-- an option starts at the place: 20 and the octets of the steps before it lead there
pub record Starts (s : List ℕ) (place : ℕ) : Type 0 where
  pub before : List Step
  pub option : Step
  pub after : List Step
  pub stands : steps_of s ≡ before ++ (option ∷ after)
  pub counted : place ≡ 20 + octets_in before

pub record FaultThere (s : List ℕ) (n place : ℕ) : Type 0 where
  pub starts : Starts s place
  pub after_header : 20 ≤ place
  pub before_payload : place < 4 * data_offset s
  pub wrong : Wrong s place n

module _ (s : List ℕ) where
  -- the option at fault, by what is wrong with its step
  at_step : (before : List Step) (step : Step) (after : List Step) (n : ℕ) → steps_of s ≡ before ++ (step ∷ after) → ShownIn s step
      → Judged before step n → (n ≡ 0 → ⊥) → Wrong s (step_place step) n
  at_step before step after n stands there (nop_passed at) nonzero = absurd (nonzero refl)
  at_step before step after n stands there (end_passed at) nonzero = absurd (nonzero refl)
  at_step before step after n stands there (broken_option at) nonzero =
      broken_there (rw (kind_at s at there.before_payload) at there.shows.0) (broken_only _ there.shows.1)
  at_step before step after n stands there (wrong_length at octets known wrong) nonzero =
      let kind = kind_is s at octets there in
      let size = length_is s at octets there in
      wrong_length_there (subst Known kind known) (λ right. wrong (rw (kind, size) right))
  at_step before step after n stands there (second_time at octets right (earlier, o, m, same)) nonzero =
      let kind = kind_is s at octets there in
      let size = length_is s at octets there in
      let first : Memᴰ (whole earlier o) (steps_of s) = subst (Memᴰ (whole earlier o)) (sym stands) (mathlib.Core.List.Memᴰ.append_left (step ∷ after) m) in
      let stood = of_each (each_shown s) first in
      second_there (rw (kind, size) at right) earlier o first
      (earlier_before (whole earlier o) before (whole at octets) after (subst (EachTwo Before) stands (ascending s)) m)
      (sym (kind_is s earlier o stood) ∙ same ∙ kind)
  at_step before step after n stands there (first_time at octets right new) nonzero = absurd (nonzero refl)
  at_step before step after n stands there (unknown_kind at octets unknown) nonzero = absurd (nonzero refl)

  by_number : (n place : ℕ) (p : Option ℕ) (steps : ℕ) → Given s n p steps → p ≡ some place → FaultThere s n place
  by_number n place p steps (too_short h) e = absurd (some-ne-none place (sym e))
  by_number n place p steps (too_long h) e = absurd (some-ne-none place (sym e))
  by_number n place p steps (offset_low long short h) e = absurd (some-ne-none place (sym e))
  by_number n place p steps (offset_past long short least h) e = absurd (some-ne-none place (sym e))
  by_number n place p steps (faulty passed before step after m stands clean j nonzero) e =
      let there = each_there before step after (subst (Each (ShownIn s)) stands (each_shown s)) in
      let counted = place_counted s before step after stands in
      subst (FaultThere s n) (counted ∙ some-injective _ _ e) (record {
        starts = record { before = before; option = step; after = after; stands = stands; counted = counted };
        after_header = there.after_header;
        before_payload = there.before_payload;
        wrong = at_step before step after n stands there j nonzero;
      })
  by_number n place p steps (readable passed clean) e = absurd (some-ne-none place (sym e))

  -- the place is that of an option's kind octet, among the options, and that option is wrong as the number says
  pub fault_there : (place : ℕ) → (reading s).place ≡ some place → FaultThere s (reading s).number place
  fault_there place e = by_number (reading s).number place (reading s).place (steps_taken s) (given s) e
