-- Induction along the two rules: what holds of each step, given the steps after it, holds of the steps of any octets. Assumes nothing.
use mathlib.Core.Bool.{Bool, true, false}
use mathlib.Core.List.{List, [], ◌∷◌}
use mathlib.Core.Path.{◌≡◌, refl, sym, subst, ◌∙◌}
use Prim.Native.Nat.{ℕ, zero, suc, ◌+◌, ◌≤◌, ◌<◌}
use native.Mathlib.Omega.{arith}
use lib.Dec.{eqb}
use lib.ListN.{drop, get_or, length, length-drop, take}
use borrow.Author.Tests.{ne_eqb}
use Rattle.segment.specs.Grammar.{Step, broken, end, is_broken, length_least, nop, option_rule_lem, option_rule, padding_none, padding_rule_lem, padding_rule, whole}

-- a claim about some octets, their place and their steps, at each of the ways in which the rules go on
pub record Steps (P : ℕ → List ℕ → List Step → Type 0) : Type 0 where
  pub at_none : (at : ℕ) → P at [] []
  pub at_end : (at : ℕ) (rest : List ℕ) → P at (0 ∷ rest) (end at ∷ [])
  pub at_nop : (at : ℕ) (rest : List ℕ) (later : List Step) → P (at + 1) rest later → P at (1 ∷ rest) (nop at ∷ later)
  pub at_broken : (at kind : ℕ) (rest : List ℕ) → 2 ≤ kind → is_broken (kind ∷ rest) ≡ true → P at (kind ∷ rest) (broken at ∷ [])
  pub at_whole : (at kind : ℕ) (rest : List ℕ) (later : List Step) → 2 ≤ kind → is_broken (kind ∷ rest) ≡ false
      → let n = get_or (kind ∷ rest) 1 0 in P (at + n) (drop n (kind ∷ rest)) later
      → P at (kind ∷ rest) (whole at (take n (kind ∷ rest)) ∷ later)

module _ {P : ℕ → List ℕ → List Step → Type 0} (p : Steps P) where
  -- the claim for fewer octets than k
  abbrev Below : ℕ → Type 0
  Below k = (at : ℕ) (left : List ℕ) → length left < k → P at left (padding_rule at left)

  at_option : (at kind : ℕ) (rest : List ℕ) → 2 ≤ kind → Below (suc (length rest)) → P at (kind ∷ rest) (option_rule at (kind ∷ rest))
  at_option at kind rest known below = go (is_broken (kind ∷ rest)) refl
    where
      left : List ℕ
      left = kind ∷ rest

      n : ℕ
      n = get_or left 1 0

      go : (t : Bool) → is_broken left ≡ t → P at left (option_rule at left)
      go true e = subst (P at left) (sym (option_rule_lem at left ∙ simp e)) (p.at_broken at kind rest known e)
      go false e =
          let fewer : length (drop n left) < suc (length rest) = omega (arith, length-drop n left, length_least left e) in
          let later : P (at + n) (drop n left) (padding_rule (at + n) (drop n left)) = below (at + n) (drop n left) fewer in
          subst (P at left) (sym (option_rule_lem at left ∙ simp e)) (p.at_whole at kind rest _ known e later)

  at_kind : (at kind : ℕ) (rest : List ℕ) → Below (suc (length rest)) → P at (kind ∷ rest) (padding_rule at (kind ∷ rest))
  at_kind at zero rest below = subst (P at (0 ∷ rest)) (sym (padding_rule_lem at 0 rest)) (p.at_end at rest)
  at_kind at (suc zero) rest below =
      subst (P at (1 ∷ rest)) (sym (padding_rule_lem at 1 rest)) (p.at_nop at rest _ (below (at + 1) rest (omega arith)))
  at_kind at (suc (suc m)) rest below =
      let kind : ℕ = suc (suc m) in
      let other : (eqb kind 0 ≡ false) × (eqb kind 1 ≡ false) = (ne_eqb kind 0 (λ e. omega arith), ne_eqb kind 1 (λ e. omega arith)) in
      subst (P at (kind ∷ rest)) (sym (padding_rule_lem at kind rest ∙ simp (other.0, other.1))) (at_option at kind rest (omega arith) below)

  bounded : (k : ℕ) → Below k
  bounded zero at left h = absurd (omega arith)
  bounded (suc k) at [] h = subst (P at []) (sym (padding_none at)) (p.at_none at)
  bounded (suc k) at (kind ∷ rest) h = at_kind at kind rest (λ a l q. bounded k a l (omega arith))

  pub along_rules : (at : ℕ) (left : List ℕ) → P at left (padding_rule at left)
  along_rules at left = bounded (suc (length left)) at left (omega arith)
