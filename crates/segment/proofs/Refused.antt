-- A refusal is one of the numbers 1 to 6 and has no fields, so what has fields is read; E4, E5 and E6 alone have a place. Assumes nothing.
use mathlib.Core.Bool.{Bool, true, false, cond, ◌||◌}
use mathlib.Core.List.{List, []}
use mathlib.Core.Option.{Option, none, some, Option-elim, map, some-ne-none}
use mathlib.Core.Path.{◌≡◌, refl, sym, ap, ◌∙◌}
use Prim.Native.Nat.{ℕ, ◌*◌, ◌≤◌}
use native.Mathlib.Omega.{arith}
use lib.Dec.{eqb, ltb}
use lib.ListN.{length}
use borrow.Author.Tests.{eqb-false, eqb-true}
use Rattle.segment.specs.Grammar.{Step}
use Rattle.segment.specs.Options.{Fault, fault_in, options_of, skipped_in}
use Rattle.segment.specs.Reading.{Answer, data_offset, options_read, read_as, reading, refused, refused_at, segment_of, steps_of, with_fields}
use Rattle.segment.specs.declared.Options.{Options}
use Rattle.segment.specs.declared.Segment.{Segment}
use Rattle.segment.proofs.Readable.{fault_range}

-- what is answered with a number from 1 to 6 has no fields, and with 0 to 3 no place
pub record Alone {A : Type 0} (a : Answer A) : Type 0 where
  pub number_most : a.number ≤ 6
  pub no_fields : (a.number ≡ 0 → ⊥) → a.fields ≡ none
  pub no_place : a.number ≤ 3 → a.place ≡ none

refused_alone : {A : Type 0} (n : ℕ) → n ≤ 6 → Alone (refused {A = A} n)
refused_alone n h = record { number_most = h; no_fields = λ given. refl; no_place = λ low. refl }

chosen_alone : {A : Type 0} (t : Bool) (a b : Answer A) → Alone a → Alone b → Alone (cond t a b)
chosen_alone true a b p q = p
chosen_alone false a b p q = q

options_alone : (steps : List Step) → Alone (options_read steps)
unfolding options_read Option-elim
options_alone steps = go (fault_in [] steps) refl
  where
    go : (f : Option Fault) → fault_in [] steps ≡ f → Alone {A = Options} (Option-elim f (read_as (options_of steps)) refused_at)
    go none e = record { number_most = omega arith; no_fields = λ given. absurd (given refl); no_place = λ low. refl }
    go (some fault) e =
        let range = fault_range [] steps fault e in
        record { number_most = range.1; no_fields = λ given. refl; no_place = λ low. absurd (omega (arith, range.0)) }

fields_alone : {A B : Type 0} (f : A → B) (a : Answer A) → Alone a → Alone (with_fields f a)
fields_alone f a p = record {
  number_most = p.number_most;
  no_fields = λ given. ap (map f) (p.no_fields given);
  no_place = p.no_place;
}

pub reading_alone : (s : List ℕ) → Alone (reading s)
unfolding reading
reading_alone s =
    let options = fields_alone (segment_of s (4 * data_offset s) (skipped_in (steps_of s))) _ (options_alone (steps_of s)) in
    let offset = chosen_alone (ltb (data_offset s) 5 || ltb (length s) (4 * data_offset s)) _ _ (refused_alone 3 (omega arith)) options in
    let long = chosen_alone (ltb 65535 (length s)) _ _ (refused_alone 2 (omega arith)) offset in
    chosen_alone (ltb (length s) 20) _ _ (refused_alone 1 (omega arith)) long

-- what has fields is read: a reading from its fields alone
pub read_whole : (s : List ℕ) (w : Segment) → (reading s).fields ≡ some w → reading s ≡ read_as w
read_whole s w e = go (eqb (reading s).number 0) refl
  where
    go : (t : Bool) → eqb (reading s).number 0 ≡ t → reading s ≡ read_as w
    go true z =
        let zero = eqb-true (reading s).number 0 z in
        let place = (reading_alone s).no_place (omega (arith, zero)) in
        λ i. record { number = zero i; place = place i; fields = e i }
    go false z = absurd (some-ne-none w (sym e ∙ (reading_alone s).no_fields (eqb-false (reading s).number 0 z)))
