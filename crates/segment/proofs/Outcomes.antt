-- The rules' outcome on the octets of the header from a place on, by the octets that the code tests. Assumes nothing.
use mathlib.Core.Bool.{Bool, true, false, not, ◌&&◌}
use mathlib.Core.List.{List, [], ◌∷◌, ◌++◌}
use mathlib.Core.Path.{◌≡◌, sym, ap, subst, ◌∙◌}
use Prim.Native.Nat.{ℕ, ◌+◌, ◌≤◌, ◌<◌}
use lib.ListN.{drop, get_or, length, take}
use Rattle.std.specs.Prelude.{None, is_some}
use Rattle.segment.specs.Grammar.{Step, is_broken, option_rule, padding_rule, whole}
use Rattle.segment.specs.Options.{is_found, is_known, is_repeated, is_wrong_length, known_kinds, lengths_of, option_of, stands_in}
use Rattle.segment.specs.Internal.{Answers, Noted, Outcome}
use Rattle.segment.specs.declared.Refusal.{Refusal}
use Rattle.segment.specs.declared.notes.Notes.{Notes}
use Rattle.segment.proofs.ByOctet.{kind_kept, length_kept, option_broken, option_whole, padding_end, padding_nop, padding_option, padding_past}
use Rattle.segment.proofs.Judging.{outcome_broken, outcome_end, outcome_none, outcome_nop, outcome_repeated, outcome_whole, outcome_wrong, refused}
use Rattle.segment.proofs.Noting.{noted_repeated, placed, placed_noted, skipping, skipping_noted}

-- neither E5 nor E6 is given for an unknown kind
pub unknown_passes : (kind n : ℕ) → is_known kind ≡ false → (is_wrong_length kind n ≡ false) × ((before : List Step) → is_repeated before kind ≡ false)
unfolding is_wrong_length is_repeated
unknown_passes kind n e =
    (ap (λ (k : Bool). k && not (stands_in n (lengths_of kind known_kinds))) e, λ before. ap (λ (k : Bool). k && is_found (option_of kind before)) e)

module _ (before : List Step) (k : ℕ) (header : List ℕ) (at : ℕ) where
  -- an outcome on steps that are these
  from_steps : (steps these : List Step) (notes : Notes) → these ≡ steps → Outcome before k steps notes
      → Outcome before k these notes
  from_steps steps these notes e o = subst (λ (l : List Step). Outcome before k l notes) (sym e) o

  -- by the padding rule
  abbrev ByPadding : Notes → Type 0
  ByPadding notes = Outcome before k (padding_rule at (drop at header)) notes

  pub at_past : length header ≤ at → (notes : Notes) → Noted before notes → notes.steps ≡ k → ByPadding notes
  at_past h notes p count = from_steps _ _ notes (padding_past header at h) (outcome_none before k notes p count)

  module _ (h : at < length header) where
    pub at_end : get_or header at 0 ≡ 0 → (notes : Notes) → Noted before notes → notes.steps ≡ k + 1 → ByPadding notes
    at_end e notes p count = from_steps _ _ notes (padding_end header at h e) (outcome_end before k at notes p count)

    module _ (notes : Notes) where
      pub at_nop : get_or header at 0 ≡ 1 → Outcome before (k + 1) (padding_rule (at + 1) (drop (at + 1) header)) notes
          → ByPadding notes
      at_nop e o = from_steps _ _ notes (padding_nop header at h e) (outcome_nop before k at _ notes o)

      pub at_option : (get_or header at 0 ≡ 0 → ⊥) → (get_or header at 0 ≡ 1 → ⊥) → Outcome before k (option_rule at (drop at header)) notes
          → ByPadding notes
      at_option d e o = from_steps _ _ notes (padding_option header at h d e) o

  -- by the option rule
  abbrev ByOption : Notes → Type 0
  ByOption notes = Outcome before k (option_rule at (drop at header)) notes

  abbrev kind : ℕ
  kind = get_or header at 0

  abbrev n : ℕ
  n = get_or header (at + 1) 0

  -- the option at fault is the last that counts
  module _ (notes : Notes) (count : notes.steps ≡ k + 1) where
    pub at_broken : is_broken (drop at header) ≡ true → ByOption (refused notes (Refusal.BrokenOption at))
    at_broken e = from_steps _ _ _ (option_broken header at e) (outcome_broken before k at [] notes count)

    pub at_wrong : is_broken (drop at header) ≡ false → is_wrong_length kind n ≡ true → ByOption (refused notes (Refusal.WrongOptionLength at))
    at_wrong e w =
        from_steps _ _ _ (option_whole header at e)
        (outcome_wrong before k at _ notes count _ (rw (kind_kept header at e, length_kept header at e) w))

    pub at_repeated : is_broken (drop at header) ≡ false → is_wrong_length kind n ≡ false → is_known kind ≡ true → (noted : Notes) → Noted before noted
        → is_some (get_or noted.places kind None) ≡ true → ByOption (refused notes (Refusal.RepeatedOption at))
    at_repeated e w known noted p there =
        let repeated : is_repeated before kind ≡ true = sym (noted_repeated before noted kind known p) ∙ there in
        from_steps _ _ _ (option_whole header at e)
        (outcome_repeated before k at _ notes count _ (rw (kind_kept header at e, length_kept header at e) w) (rw (kind_kept header at e) repeated))

  module _ (e : is_broken (drop at header) ≡ false) (notes : Notes) (p : Noted before notes) (count : notes.steps ≡ k + 1) (later : Notes) where
    abbrev octets : List ℕ
    octets = take n (drop at header)

    -- an option without fault, noted: an outcome on the octets after it is one on the option too
    at_whole : is_wrong_length kind n ≡ false → is_repeated before kind ≡ false → (noted : Notes) → Noted (before ++ (whole at octets ∷ [])) noted
        → noted.steps ≡ k + 1 → Answers (padding_rule (at + n) (drop (at + n) header)) noted later → ByOption later
    at_whole w s noted q counted after =
        let steps : List Step = before ++ (whole at octets ∷ []) in
        let rest = padding_rule (at + n) (drop (at + n) header) in
        let o = subst (λ (j : ℕ). Outcome steps j rest later) counted (after steps q) in
        from_steps _ _ later (option_whole header at e)
        (outcome_whole before k at octets rest later (rw (kind_kept header at e, length_kept header at e) w) (rw (kind_kept header at e) s) o)

    pub at_skipped : is_known kind ≡ false → Answers (padding_rule (at + n) (drop (at + n) header)) (skipping notes) later → ByOption later
    at_skipped unknown after =
        let passes = unknown_passes kind n unknown in
        let is = kind_kept header at e in
        at_whole passes.0 (passes.1 before) _ (skipping_noted notes before p at octets (rw is unknown) (rw is (passes.1 before))) count after

    pub at_known : length notes.places ≡ 9 → (known : is_known kind ≡ true) → is_wrong_length kind n ≡ false → is_some (get_or notes.places kind None) ≡ false
        → Answers (padding_rule (at + n) (drop (at + n) header)) (placed notes kind at) later → ByOption later
    at_known size known w none after =
        let is = kind_kept header at e in
        let new : is_repeated before kind ≡ false = sym (noted_repeated before notes kind known p) ∙ none in
        let noted = placed_noted notes before p at octets size (rw is known) (rw is new) in
        at_whole w new _ (rw is at noted) count after
