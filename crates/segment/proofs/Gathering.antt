-- What the options say after one more, by what they said before. Assumes nothing.
use mathlib.Core.Bool.{Bool, true, false, cond, not, ◌||◌, true≢false}
use mathlib.Core.List.{List, [], ◌∷◌, ◌++◌}
use mathlib.Core.Path.{◌≡◌, refl, sym, ap, ◌∙◌}
use Prim.Native.Nat.{ℕ, ◌+◌}
use native.Mathlib.Omega.{arith}
use lib.Dec.{eqb}
use lib.ListN.{get_or, length, length-append}
use Rattle.std.specs.Prelude.{Some, None}
use borrow.Author.Tests.{eqb-true}
use Rattle.laws.specs.Lists.{filter}
use Rattle.laws.proofs.Lists.{filter_append}
use Rattle.segment.specs.Grammar.{Step, nop, end, whole, broken}
use Rattle.segment.specs.Options.{Found, found, is_found, is_known, is_repeated, is_skipped, nothing, option_in, option_of, skipped_in, stands_in}
use Rattle.segment.specs.Internal.{Noted, place_of}
use Rattle.segment.specs.declared.notes.Notes.{Notes}

abbrev pub first_of : Found → Found → Found
first_of (found at octets) later = found at octets
first_of nothing later = later

pub option_in_append : (kinds : List ℕ) (before later : List Step)
    → option_in kinds (before ++ later) ≡ first_of (option_in kinds before) (option_in kinds later)
unfolding option_in
option_in_append kinds [] later = refl
option_in_append kinds (nop at ∷ before) later = option_in_append kinds before later
option_in_append kinds (end at ∷ before) later = option_in_append kinds before later
option_in_append kinds (broken at ∷ before) later = option_in_append kinds before later
option_in_append kinds (whole at octets ∷ before) later = go (stands_in (get_or octets 0 0) kinds) (option_in_append kinds before later)
  where
    go : (t : Bool) → option_in kinds (before ++ later) ≡ first_of (option_in kinds before) (option_in kinds later)
        → cond t (found at octets) (option_in kinds (before ++ later)) ≡ first_of (cond t (found at octets) (option_in kinds before)) (option_in kinds later)
    go true e = refl
    go false e = e

pub skipped_append : (before later : List Step) → skipped_in (before ++ later) ≡ skipped_in before + skipped_in later
skipped_append before later = ap length (filter_append is_skipped before later) ∙ length-append (filter is_skipped before) (filter is_skipped later)

module _ (before : List Step) (at : ℕ) (octets : List ℕ) where
  abbrev kind : ℕ
  kind = get_or octets 0 0

  abbrev after : List Step
  after = before ++ (whole at octets ∷ [])

  -- the option of a kind is the one more, where it has that kind and none before has it
  pub option_after : (k : ℕ) → (eqb kind k ≡ true → is_found (option_of k before) ≡ false)
      → option_of k after ≡ cond (eqb kind k) (found at octets) (option_of k before)
  unfolding option_in stands_in
  option_after k new = option_in_append (k ∷ []) before (whole at octets ∷ []) ∙ go (eqb kind k) (option_of k before) new
    where
      go : (t : Bool) (f : Found) → (t ≡ true → is_found f ≡ false)
          → first_of f (cond (t || false) (found at octets) nothing) ≡ cond t (found at octets) f
      go true nothing n = refl
      go true (found a o) n = absurd (true≢false (n refl))
      go false nothing n = refl
      go false (found a o) n = refl

  -- a known kind that does not repeat is new
  pub new_kind : is_repeated before kind ≡ false → (k : ℕ) → is_known k ≡ true → eqb kind k ≡ true → is_found (option_of k before) ≡ false
  unfolding is_repeated
  new_kind e k known same = rw (eqb-true kind k same, known) at e

  -- one more option is skipped exactly if its kind is not known
  pub skipped_after : skipped_in after ≡ cond (is_known kind) (skipped_in before) (skipped_in before + 1)
  skipped_after = skipped_append before (whole at octets ∷ []) ∙ go (is_known kind)
    where
      go : (t : Bool) → skipped_in before + length (cond (not t) (whole at octets ∷ []) []) ≡ cond t (skipped_in before) (skipped_in before + 1)
      go true = omega arith
      go false = refl

  place_after : (k : ℕ) → (eqb kind k ≡ true → is_found (option_of k before) ≡ false)
      → place_of (option_of k after) ≡ cond (eqb kind k) (Some at) (place_of (option_of k before))
  place_after k new = ap place_of (option_after k new) ∙ go (eqb kind k)
    where
      go : (t : Bool) → place_of (cond t (found at octets) (option_of k before)) ≡ cond t (Some at) (place_of (option_of k before))
      go true = refl
      go false = refl

  -- notes with one more option: its place at its kind where that is known, otherwise one more skipped
  pub noted_after : (notes later : Notes) → Noted before notes → is_repeated before kind ≡ false
      → ((k : ℕ) → is_known k ≡ true → get_or later.places k None ≡ cond (eqb kind k) (Some at) (get_or notes.places k None))
      → later.skipped ≡ cond (is_known kind) notes.skipped (notes.skipped + 1)
      → later.refusal ≡ notes.refusal → Noted after later
  noted_after notes later p new places skipped refusal = record {
    places = λ k known.
        places k known ∙ ap (cond (eqb kind k) (Some at)) (p.places k known) ∙ sym (place_after k (new_kind new k known));
    skipped = skipped ∙ ap (λ (n : ℕ). cond (is_known kind) n (n + 1)) p.skipped ∙ sym skipped_after;
    no_fault = refusal ∙ p.no_fault;
  }
