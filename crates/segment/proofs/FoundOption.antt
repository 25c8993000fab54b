-- Finding an option, in document 01's words: "the first option whose kind stands in that list comes back", and "No match or an unreadable
-- segment gives an empty part". Each exactly if, over the steps of the two rules. Assumes nothing.
use mathlib.Core.Bool.{Bool, true, false, true≢false}
use mathlib.Core.List.Memᴰ
use mathlib.Core.List.{List, [], ◌∷◌, ◌++◌, Memᴰ}
use mathlib.Core.Logic.{◌⊎◌, inl, inr}
use mathlib.Core.Path.{◌≡◌, refl, sym, ap, subst, ◌∙◌}
use Prim.Native.Nat.{ℕ, ◌+◌}
use native.Mathlib.Omega.{arith}
use lib.Dec.{eqb}
use lib.ListN.{get_or, take}
use lib.Seq.{get_or-take}
use denote.Ref.{Bor}
use borrow.Author.Tests.{eq-eqb, eqb-true}
use Rattle.segment.specs.Grammar.{Step, broken, end, length_least, nop, whole}
use Rattle.segment.specs.Options.{Found, found, nothing, option_in, stands_in}
use Rattle.segment.specs.Reading.{found_option, matching, reading, steps_of}
use Rattle.segment.specs.Part.{IsPart, part_of}
use Rattle.segment.proofs.Induction.{Steps, along_rules}
use Rattle.segment.proofs.Inside.{none_found, octets_of}
use Rattle.segment.proofs.Membership.{stands_if, stands_not, stands_only, stands_from}

-- no option among these steps has a listed kind
abbrev pub NoneListed : List ℕ → List Step → Type 0
NoneListed kinds steps = (at : ℕ) (octets : List ℕ) → Memᴰ (whole at octets) steps → Memᴰ (get_or octets 0 0) kinds → ⊥

-- an option of these steps that is listed, with no listed one before it
pub record First (kinds : List ℕ) (steps : List Step) (at : ℕ) (octets : List ℕ) : Type 0 where
  pub before : List Step
  pub after : List Step
  pub stands : steps ≡ before ++ (whole at octets ∷ after)
  pub none_before : NoneListed kinds before
  pub listed : Memᴰ (get_or octets 0 0) kinds

pub first_there : (kinds : List ℕ) (steps : List Step) (at : ℕ) (octets : List ℕ) → First kinds steps at octets → Memᴰ (whole at octets) steps
first_there kinds steps at octets f =
    subst (Memᴰ (whole at octets)) (sym f.stands) (Memᴰ.append_right f.before (Memᴰ.head refl))

abbrev is_option : Step → Bool
is_option (nop at) = false
is_option (end at) = false
is_option (broken at) = false
is_option (whole at octets) = true

abbrev kind_of : Step → ℕ
kind_of (nop at) = 1
kind_of (end at) = 0
kind_of (broken at) = 0
kind_of (whole at octets) = get_or octets 0 0

-- Of any steps.
module _ (kinds : List ℕ) where
  first_in : (before after : List Step) (at : ℕ) (octets : List ℕ) → NoneListed kinds before → Memᴰ (get_or octets 0 0) kinds
      → option_in kinds (before ++ (whole at octets ∷ after)) ≡ found at octets
  unfolding option_in
  first_in [] after at octets none listed = simp (stands_if (get_or octets 0 0) kinds listed)
  first_in (nop a ∷ before) after at octets none listed = first_in before after at octets (λ p o m. none p o (Memᴰ.tail m)) listed
  first_in (end a ∷ before) after at octets none listed = first_in before after at octets (λ p o m. none p o (Memᴰ.tail m)) listed
  first_in (broken a ∷ before) after at octets none listed = first_in before after at octets (λ p o m. none p o (Memᴰ.tail m)) listed
  first_in (whole a x ∷ before) after at octets none listed =
      simp (stands_not (get_or x 0 0) kinds (none a x (Memᴰ.head refl)))
      (first_in before after at octets (λ p o m. none p o (Memᴰ.tail m)) listed)

  pub first_option : (steps : List Step) (at : ℕ) (octets : List ℕ) → First kinds steps at octets → option_in kinds steps ≡ found at octets
  first_option steps at octets f = ap (option_in kinds) f.stands ∙ first_in f.before f.after at octets f.none_before f.listed

  -- a step that is no listed option
  abbrev Other : Step → Type 0
  Other step = (at : ℕ) (octets : List ℕ) → whole at octets ≡ step → Memᴰ (get_or octets 0 0) kinds → ⊥

  no_option : (step : Step) → is_option step ≡ false → Other step
  no_option step e at octets same m = true≢false (ap is_option same ∙ e)

  unlisted : (at : ℕ) (octets : List ℕ) → stands_in (get_or octets 0 0) kinds ≡ false → Other (whole at octets)
  unlisted at octets e a o same m = true≢false (sym (stands_if (get_or o 0 0) kinds m) ∙ ap (λ (s : Step). stands_in (kind_of s) kinds) same ∙ e)

  none_more : (step : Step) (later : List Step) → Other step → NoneListed kinds later → NoneListed kinds (step ∷ later)
  none_more step later other none at octets m = go (Memᴰ.cases_cons m)
    where
      go : (whole at octets ≡ step) ⊎ Memᴰ (whole at octets) later → Memᴰ (get_or octets 0 0) kinds → ⊥
      go (inl same) = other at octets same
      go (inr m) = none at octets m

  -- either none is listed, and none is found, or one is the first
  Sought : List Step → Type 0
  Sought steps = (NoneListed kinds steps × (option_in kinds steps ≡ nothing)) ⊎ ((at : ℕ) × (octets : List ℕ) × First kinds steps at octets)

  passes_over : (step : Step) (later : List Step) → Other step → option_in kinds (step ∷ later) ≡ option_in kinds later → Sought later → Sought (step ∷ later)
  unfolding Sought
  passes_over step later other same (inl none) = inl (none_more step later other none.0, same ∙ none.1)
  passes_over step later other same (inr (at, octets, f)) = inr (
    at,
    octets,
    record {
      before = step ∷ f.before;
      after = f.after;
      stands = ap (λ (l : List Step). step ∷ l) f.stands;
      none_before = none_more step f.before other f.none_before;
      listed = f.listed;
    },
  )

  sought : (steps : List Step) → Sought steps
  unfolding Sought option_in
  sought [] = inl ((λ at octets m. absurd (Memᴰ.not-nil m)), refl)
  sought (nop a ∷ later) = passes_over (nop a) later (no_option (nop a) refl) refl (sought later)
  sought (end a ∷ later) = passes_over (end a) later (no_option (end a) refl) refl (sought later)
  sought (broken a ∷ later) = passes_over (broken a) later (no_option (broken a) refl) refl (sought later)
  sought (whole a x ∷ later) = go (stands_in (get_or x 0 0) kinds) refl (sought later)
    where
      go : (t : Bool) → stands_in (get_or x 0 0) kinds ≡ t → Sought later → Sought (whole a x ∷ later)
      go true e rest = inr (
        a,
        x,
        record {
          before = [];
          after = later;
          stands = refl;
          none_before = λ at octets m. absurd (Memᴰ.not-nil m);
          listed = stands_only (get_or x 0 0) kinds e;
        },
      )
      go false e rest = passes_over (whole a x) later (unlisted a x e) (simp e) rest

  -- the one that is found is the first
  pub only_first : (steps : List Step) (at : ℕ) (octets : List ℕ) → option_in kinds steps ≡ found at octets → First kinds steps at octets
  unfolding Sought
  only_first steps at octets e = go (sought steps)
    where
      go : Sought steps → First kinds steps at octets
      go (inl none) = none_found at octets (sym none.1 ∙ e)
      go (inr (a, o, f)) =
          let same : found a o ≡ found at octets = sym (first_option steps a o f) ∙ e in
          let place : a ≡ at = cc in
          subst (λ (k : ℕ). First kinds steps k octets) place (subst (First kinds steps a) (ap octets_of same) f)

  -- none is found exactly if none is listed
  pub nothing_if : (steps : List Step) → NoneListed kinds steps → option_in kinds steps ≡ nothing
  unfolding Sought
  nothing_if steps none = go (sought steps)
    where
      go : Sought steps → option_in kinds steps ≡ nothing
      go (inl n) = n.1
      go (inr (a, o, f)) = absurd (none a o (first_there kinds steps a o f) f.listed)

  pub nothing_only : (steps : List Step) → option_in kinds steps ≡ nothing → NoneListed kinds steps
  unfolding Sought
  nothing_only steps e = go (sought steps)
    where
      go : Sought steps → NoneListed kinds steps
      go (inl n) = n.0
      go (inr (a, o, f)) = none_found a o (sym e ∙ first_option steps a o f)

-- Of the steps of a segment, whose options have kinds from 2 on.
module _ (kinds : List ℕ) where
  same_found : Steps (λ at left steps. option_in (matching kinds) steps ≡ option_in kinds steps)
  unfolding option_in
  same_found = record {
    at_none = λ at. refl;
    at_end = λ at rest. refl;
    at_nop = λ at rest later e. e;
    at_broken = λ at kind rest k b. refl;
    at_whole = λ at kind rest later k b e.
        let left : List ℕ = kind ∷ rest in
        let kept : get_or (take (get_or left 1 0) left) 0 0 ≡ kind = get_or-take (get_or left 1 0) left 0 0 (omega (arith, length_least left b)) in
        let stands : stands_in kind (matching kinds) ≡ stands_in kind kinds = stands_from _ kind kinds (omega (arith, k)) in
        rw (kept, stands, e);
  }

module _ (s kinds : List ℕ) where
  found_read : (reading s).number ≡ 0 → found_option s kinds ≡ option_in kinds (steps_of s)
  unfolding found_option
  found_read e = simp (eq-eqb _ 0 e) (along_rules (same_found kinds) 20 _)

  -- a listed option of a readable segment, with no listed one before it, is the one found; and no other is
  pub first_found : (at : ℕ) (octets : List ℕ) → (reading s).number ≡ 0 → First kinds (steps_of s) at octets → found_option s kinds ≡ found at octets
  first_found at octets e f = found_read e ∙ first_option kinds (steps_of s) at octets f

  pub found_first : (at : ℕ) (octets : List ℕ) → found_option s kinds ≡ found at octets → ((reading s).number ≡ 0) × First kinds (steps_of s) at octets
  unfolding found_option
  found_first at octets e = go (eqb (reading s).number 0) refl
    where
      go : (t : Bool) → eqb (reading s).number 0 ≡ t → ((reading s).number ≡ 0) × First kinds (steps_of s) at octets
      go true z =
          let read = eqb-true _ 0 z in
          (read, only_first kinds (steps_of s) at octets (sym (found_read read) ∙ e))
      go false z = none_found at octets (sym (rw z) ∙ e)

  -- none is found exactly if none is listed or the segment is unreadable
  pub nothing_found : ((reading s).number ≡ 0 → NoneListed kinds (steps_of s)) → found_option s kinds ≡ nothing
  unfolding found_option
  nothing_found none = go (eqb (reading s).number 0) refl
    where
      go : (t : Bool) → eqb (reading s).number 0 ≡ t → found_option s kinds ≡ nothing
      go true z =
          let read = eqb-true _ 0 z in
          found_read read ∙ nothing_if kinds (steps_of s) (none read)
      go false z = rw z

  pub none_listed : found_option s kinds ≡ nothing → (reading s).number ≡ 0 → NoneListed kinds (steps_of s)
  none_listed e read = nothing_only kinds (steps_of s) (sym (found_read read) ∙ e)

-- And so `find_option` returns that very part of the segment, kind and length octets included, or an empty part.
module _ (s kinds : List ℕ) (r : Bor (List ℕ)) (from : ℕ × ℕ) (p : IsPart r from (found_option s kinds)) where
  pub first_part : (at : ℕ) (octets : List ℕ) → (reading s).number ≡ 0 → First kinds (steps_of s) at octets
      → (r.now ≡ octets) × (r.ref_ptr.0 ≡ from.0) × (r.ref_ptr.1 ≡ from.1 + at)
  first_part at octets e f =
      let is = first_found s kinds at octets e f in
      (p.0 ∙ ap (λ (g : Found). (part_of g).1) is, p.1, p.2 ∙ ap (λ (g : Found). from.1 + (part_of g).0) is)

  pub empty_part : ((reading s).number ≡ 0 → NoneListed kinds (steps_of s)) → r.now ≡ []
  empty_part none = p.0 ∙ ap (λ (g : Found). (part_of g).1) (nothing_found s kinds none)
