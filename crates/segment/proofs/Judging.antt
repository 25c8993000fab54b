-- The rules' outcome on some steps, step by step from the left. Assumes nothing.
use mathlib.Core.Bool.{true, false, cond, ◌&&◌}
use mathlib.Core.List.{List, [], ◌∷◌, ◌++◌, append_assoc, append-nil}
use mathlib.Core.Option.{some}
use mathlib.Core.Path.{◌≡◌, refl, sym, ap, subst, ◌∙◌}
use Prim.Native.Nat.{ℕ, ◌+◌}
use native.Mathlib.Omega.{arith}
use lib.Dec.{eqb}
use Rattle.std.specs.Prelude.{Some}
use lib.ListN.{get_or, length}
use borrow.Author.Tests.{ne_eqb}
use Rattle.segment.specs.Grammar.{Step, nop, end, whole, broken}
use Rattle.segment.specs.Options.{Found, fault_at, fault_in, found, is_found, is_known, is_repeated, is_wrong_length, nothing, option_in, skipped_in, step_place, up_to_fault}
use Rattle.segment.specs.Internal.{Noted, Outcome, fault_of, place_of}
use Rattle.segment.specs.Reading.{fault_place, number_of, number_positive}
use Rattle.segment.specs.declared.Refusal.{Refusal}
use Rattle.segment.specs.declared.notes.Notes.{Notes}
use Rattle.segment.proofs.Gathering.{first_of, option_in_append, skipped_append}

-- Steps before matter only by the options among them.
pub record SameOptions (a b : List Step) : Type 0 where
  pub found_same : (kinds : List ℕ) → option_in kinds a ≡ option_in kinds b
  pub skipped_same : skipped_in a ≡ skipped_in b

same_noted : (a b : List Step) (notes : Notes) → SameOptions a b → Noted a notes → Noted b notes
same_noted a b notes e p = record {
  places = λ kind known. p.places kind known ∙ ap place_of (e.found_same (kind ∷ []));
  skipped = p.skipped ∙ e.skipped_same;
  no_fault = p.no_fault;
}

same_after : (a b later : List Step) → SameOptions a b → SameOptions (a ++ later) (b ++ later)
same_after a b later e = record {
  found_same = λ kinds.
      option_in_append kinds a later
      ∙ ap (λ (f : Found). first_of f (option_in kinds later)) (e.found_same kinds)
      ∙ sym (option_in_append kinds b later);
  skipped_same = skipped_append a later ∙ ap (λ (n : ℕ). n + skipped_in later) e.skipped_same ∙ sym (skipped_append b later);
}

same_fault_at : (a b : List Step) (step : Step) → SameOptions a b → fault_at a step ≡ fault_at b step
unfolding fault_at is_repeated
same_fault_at a b (nop at) e = refl
same_fault_at a b (end at) e = refl
same_fault_at a b (broken at) e = refl
same_fault_at a b (whole at octets) e =
    let kind : ℕ = get_or octets 0 0 in
    ap (λ (f : Found). cond (is_wrong_length kind (length octets)) 5 (cond (is_known kind && is_found f) 6 0)) (e.found_same (kind ∷ []))

same_faults : (a b later : List Step) → SameOptions a b → (fault_in a later ≡ fault_in b later) × (up_to_fault a later ≡ up_to_fault b later)
unfolding fault_in up_to_fault
same_faults a b [] e = (refl, refl)
same_faults a b (step ∷ later) e =
    let here = same_fault_at a b step e in
    let after = same_faults (a ++ (step ∷ [])) (b ++ (step ∷ [])) later (same_after a b (step ∷ []) e) in (
      λ i. cond (eqb (here i) 0) (after.0 i) (some (record { number = here i; place = step_place step })),
      rw (here, after.1),
    )

same_outcome : (a b : List Step) (k : ℕ) (later : List Step) (notes : Notes) → SameOptions a b → Outcome a k later notes → Outcome b k later notes
same_outcome a b k later notes e o = record {
  fault_is = sym (same_faults a b later e).0 ∙ o.fault_is;
  noted = λ z. same_noted (a ++ later) (b ++ later) notes (same_after a b later e) (o.noted z);
  counted = o.counted ∙ ap (λ (l : List Step). k + length l) (same_faults a b later e).1;
}

-- nothing is left
pub outcome_none : (before : List Step) (k : ℕ) (notes : Notes) → Noted before notes → notes.steps ≡ k → Outcome before k [] notes
unfolding fault_in up_to_fault
outcome_none before k notes p count = record {
  fault_is = sym (ap fault_of p.no_fault);
  noted = λ z. subst (λ (steps : List Step). Noted steps notes) (sym (append-nil before)) p;
  counted = omega (arith, count);
}

module _ (before : List Step) (k : ℕ) (step : Step) (later : List Step) (notes : Notes) where
  -- a step without fault joins those before
  pub outcome_on : fault_at before step ≡ 0 → Outcome (before ++ (step ∷ [])) (k + 1) later notes
      → Outcome before k (step ∷ later) notes
  unfolding fault_in up_to_fault
  outcome_on e o = record {
    fault_is = rw e o.fault_is;
    noted = λ z. subst (λ (steps : List Step). Noted steps notes) (append_assoc before (step ∷ []) later) (o.noted z);
    counted = rw e (omega (arith, o.counted));
  }

  -- a fault decides: its place is the step's, and the step is the last that counts
  pub outcome_fault : (why : Refusal) → notes.refusal ≡ Some why → fault_at before step ≡ number_of why → some (step_place step) ≡ fault_place why → notes.steps ≡ k + 1
      → Outcome before k (step ∷ later) notes
  unfolding fault_in up_to_fault
  outcome_fault why is e place count =
      let given : eqb (number_of why) 0 ≡ false = ne_eqb (number_of why) 0 (λ z. omega (arith, number_positive why, z)) in
      record {
        fault_is = rw (is, e, ← place) (simp given);
        noted = λ z. cc;
        counted = rw e (simp given count);
      }

-- a step that is no option leaves the options among those before
pub no_option : (before : List Step) (step : Step) → ((kinds : List ℕ) → option_in kinds (step ∷ []) ≡ nothing) → skipped_in (step ∷ []) ≡ 0
    → SameOptions before (before ++ (step ∷ []))
no_option before step e z = record {
  found_same = λ kinds.
      sym (option_in_append kinds before (step ∷ []) ∙ ap (first_of (option_in kinds before)) (e kinds) ∙ alone (option_in kinds before));
  skipped_same = omega (arith, skipped_append before (step ∷ []), z);
}
  where
    alone : (f : Found) → first_of f nothing ≡ f
    alone nothing = refl
    alone (found at octets) = refl

-- the notes with a refusal
abbrev pub refused : Notes → Refusal → Notes
refused notes why = record { places = notes.places; steps = notes.steps; skipped = notes.skipped; refusal = Some why }

module _ (before : List Step) (k at : ℕ) where
  pub outcome_nop : (later : List Step) (notes : Notes) → Outcome before (k + 1) later notes
      → Outcome before k (nop at ∷ later) notes
  unfolding fault_at option_in
  outcome_nop later notes o =
      outcome_on before k (nop at) later notes refl
      (same_outcome before _ (k + 1) later notes (no_option before (nop at) (λ kinds. refl) refl) o)

  pub outcome_end : (notes : Notes) → Noted before notes → notes.steps ≡ k + 1 → Outcome before k (end at ∷ []) notes
  unfolding fault_at option_in
  outcome_end notes p count =
      outcome_on before k (end at) [] notes refl
      (same_outcome before _ (k + 1) [] notes (no_option before (end at) (λ kinds. refl) refl) (outcome_none before (k + 1) notes p count))

  module _ (later : List Step) (notes : Notes) (count : notes.steps ≡ k + 1) where
    pub outcome_broken : Outcome before k (broken at ∷ later) (refused notes (Refusal.BrokenOption at))
    unfolding fault_at
    outcome_broken = outcome_fault before k (broken at) later _ _ refl refl refl count

    module _ (octets : List ℕ) where
      abbrev kind : ℕ
      kind = get_or octets 0 0

      pub outcome_wrong : is_wrong_length kind (length octets) ≡ true
          → Outcome before k (whole at octets ∷ later) (refused notes (Refusal.WrongOptionLength at))
      unfolding fault_at
      outcome_wrong e = outcome_fault before k (whole at octets) later _ _ refl (simp e) refl count

      pub outcome_repeated : is_wrong_length kind (length octets) ≡ false → is_repeated before kind ≡ true
          → Outcome before k (whole at octets ∷ later) (refused notes (Refusal.RepeatedOption at))
      unfolding fault_at
      outcome_repeated e f = outcome_fault before k (whole at octets) later _ _ refl (simp (e, f)) refl count

  pub outcome_whole : (octets : List ℕ) (later : List Step) (notes : Notes)
      → is_wrong_length (get_or octets 0 0) (length octets) ≡ false → is_repeated before (get_or octets 0 0) ≡ false
      → Outcome (before ++ (whole at octets ∷ [])) (k + 1) later notes → Outcome before k (whole at octets ∷ later) notes
  unfolding fault_at
  outcome_whole octets later notes e f = outcome_on before k (whole at octets) later notes (simp (e, f))
