-- What is noted after each store of the rules. Assumes nothing.
use mathlib.Core.Bool.{Bool, true, false, cond, ◌&&◌, true≢false}
use mathlib.Core.List.{List, [], ◌∷◌, ◌++◌, map}
use mathlib.Core.Path.{◌≡◌, refl, sym, ap, ◌∙◌}
use Prim.Native.Nat.{ℕ, zero, suc, ◌+◌, ◌≤◌, ◌<◌}
use native.Mathlib.Omega.{arith}
use lib.Dec.{eqb}
use Rattle.std.specs.Prelude.{Option, Some, None, is_some}
use lib.ListN.{get_or, length, length-set, replicate, set}
use lib.Seq.{get_or-set_other, get_or-set_same}
use borrow.Author.Tests.{eqb-false, eqb-true, ne_eqb}
use Rattle.laws.specs.Lists.Each.{none, more}
use Rattle.segment.specs.Grammar.{Step, whole}
use Rattle.segment.specs.Options.{is_found, is_known, is_repeated, known_kinds, option_in, option_of}
use Rattle.segment.specs.Internal.{Noted, Room}
use Rattle.segment.specs.declared.notes.Notes.{Notes}
use Rattle.segment.proofs.Gathering.{noted_after}
use Rattle.segment.proofs.Membership.{of_each, stands_only}
use Rattle.segment.proofs.Standing.{place_found}

-- the octets of the known kinds stand before those that count
pub known_most : (kind : ℕ) → is_known kind ≡ true → kind ≤ 8
known_most kind e =
    of_each {P = λ (k : ℕ). k ≤ 8} (more (omega arith) (more (omega arith) (more (omega arith) (more (omega arith) (more (omega arith) none)))))
    (stands_only kind (map (λ k. k.0) known_kinds) e)

-- an element after a store
at_store : {A : Type 0} (l : List A) (i j : ℕ) (x other : A) → i < length l → get_or (set l i x) j other ≡ cond (eqb i j) x (get_or l j other)
at_store {A} l i j x other within = go (eqb i j) refl
  where
    go : (t : Bool) → eqb i j ≡ t → get_or (set l i x) j other ≡ cond t x (get_or l j other)
    go true e = ap (λ (k : ℕ). get_or (set l i x) k other) (sym (eqb-true i j e)) ∙ get_or-set_same l i x other within
    go false e = get_or-set_other l i j x other (λ same. eqb-false i j e (sym same))

-- a known kind has a place exactly where the options before have it
pub noted_repeated : (before : List Step) (notes : Notes) (kind : ℕ) → is_known kind ≡ true → Noted before notes
    → is_some (get_or notes.places kind None) ≡ is_repeated before kind
unfolding is_repeated
noted_repeated before notes kind known p =
    ap is_some (p.places kind known) ∙ place_found (option_of kind before) ∙ ap (λ (t : Bool). t && is_found (option_of kind before)) (sym known)

all_none : (n k : ℕ) → get_or (replicate {A = Option ℕ} n None) k None ≡ None
all_none zero k = refl
all_none (suc n) zero = refl
all_none (suc n) (suc k) = all_none n k

-- before any step nothing is noted
abbrev pub no_notes : Notes
no_notes = record { places = replicate 9 None; steps = 0; skipped = 0; refusal = None }

pub none_noted : Noted [] no_notes
unfolding option_in
none_noted = record { places = λ kind known. all_none 9 kind; skipped = refl; no_fault = refl }

module _ (notes : Notes) where
  -- steps counted
  abbrev pub stepped : ℕ → Notes
  stepped n = record { places = notes.places; steps = notes.steps + n; skipped = notes.skipped; refusal = notes.refusal }

  -- one more option that is skipped
  abbrev pub skipping : Notes
  skipping = record { places = notes.places; steps = notes.steps; skipped = notes.skipped + 1; refusal = notes.refusal }

  -- the place of an option, at its kind
  abbrev pub placed : ℕ → ℕ → Notes
  placed kind place = record { places = set notes.places kind (Some place); steps = notes.steps; skipped = notes.skipped; refusal = notes.refusal }

  module _ (before : List Step) (p : Noted before notes) where
    pub stepped_noted : (n : ℕ) → Noted before (stepped n)
    stepped_noted n = record { places = p.places; skipped = p.skipped; no_fault = p.no_fault }

    module _ (at : ℕ) (option : List ℕ) where
      abbrev its_kind : ℕ
      its_kind = get_or option 0 0

      abbrev with_option : List Step
      with_option = before ++ (whole at option ∷ [])

      pub skipping_noted : is_known its_kind ≡ false → is_repeated before its_kind ≡ false → Noted with_option skipping
      skipping_noted unknown new =
          noted_after before at option notes skipping p new
          (λ k known. simp (ne_eqb its_kind k (λ same. true≢false (sym known ∙ ap is_known (sym same) ∙ unknown))))
          (simp unknown) refl

      pub placed_noted : length notes.places ≡ 9 → (known : is_known its_kind ≡ true) → is_repeated before its_kind ≡ false
          → Noted with_option (placed its_kind at)
      placed_noted size known new =
          noted_after before at option notes (placed its_kind at) p new
          (λ k _. at_store notes.places its_kind k (Some at) None (omega (arith, size, known_most its_kind known)))
          (simp known) refl

-- Room for the counts after an option of at least two octets.
module _ (notes : Notes) (at : ℕ) (room : Room notes at) (n : ℕ) (two : 2 ≤ n) where
  pub room_skipping : Room (skipping (stepped notes 1)) (at + n)
  room_skipping = record { kinds = room.kinds; steps_most = omega (arith, room); skipped_most = omega (arith, room) }

  pub room_placed : (kind place : ℕ) → Room (placed (stepped notes 1) kind place) (at + n)
  room_placed kind place = record {
    kinds = length-set notes.places kind (Some place) ∙ room.kinds;
    steps_most = omega (arith, room);
    skipped_most = omega (arith, room);
  }
