-- E4, E5, E6 at an option, in document 01's words: "option without length octet, length under 2, or past the header", "known kind, wrong
-- length", "known kind a second time", in this order. Assumes nothing.
use mathlib.Core.Bool.{Bool, true, false, cond, ◌&&◌, ◌||◌, true≢false}
use mathlib.Core.List.Memᴰ
use mathlib.Core.List.{List, [], ◌∷◌, map, Memᴰ}
use mathlib.Core.Path.{◌≡◌, refl, sym, ap, ◌∙◌}
use Prim.Native.Nat.{ℕ, ◌+◌, ◌≤◌, ◌<◌}
use native.Mathlib.Omega.{arith}
use lib.Dec.{ltb}
use lib.ListN.{drop, get_or, length, take}
use borrow.Author.Tests.{ltb-true, ne_eqb, not-false}
use Rattle.laws.specs.Lists.{Each}
use Rattle.laws.specs.Lists.Each.{none, more}
use Rattle.laws.proofs.Choices.{both_true}
use Rattle.segment.specs.Grammar.{Step, broken, end, is_broken, length_least, length_most, nop, option_rule_lem, option_rule, padding_rule_lem, padding_rule, whole}
use Rattle.segment.specs.Options.{Found, fault_at, found, is_found, is_known, is_repeated, is_wrong_length, known_kinds, lengths_of, nothing, option_of, stands_in}
use Rattle.segment.proofs.FoundOption.{first_there, nothing_only, only_first}
use Rattle.segment.proofs.Membership.{of_each, stands_only}
use Rattle.segment.proofs.Outcomes.{unknown_passes}

-- an option at the start of what is left of the header: without length octet, with a length under 2, or past the header
pub data Broken (left : List ℕ) : Type 0 where
  no_length_octet : length left < 2 → Broken left
  length_under_two : get_or left 1 0 < 2 → Broken left
  past_header : length left < get_or left 1 0 → Broken left

pub broken_only : (left : List ℕ) → is_broken left ≡ true → Broken left
unfolding is_broken
broken_only left e = go (ltb (length left) 2) refl (ltb (get_or left 1 0) 2) refl e
  where
    go : (t : Bool) → ltb (length left) 2 ≡ t → (u : Bool) → ltb (get_or left 1 0) 2 ≡ u → t || (u || ltb (length left) (get_or left 1 0)) ≡ true → Broken left
    go true f u g e = no_length_octet (ltb-true _ _ f)
    go false f true g e = length_under_two (ltb-true _ _ g)
    go false f false g e = past_header (ltb-true _ _ e)

whole_only : (left : List ℕ) → is_broken left ≡ false → Broken left → ⊥
whole_only left e (no_length_octet h) = omega (arith, length_least left e, length_most left e)
whole_only left e (length_under_two h) = omega (arith, length_least left e)
whole_only left e (past_header h) = omega (arith, length_most left e)

-- A NOP is one step, and what follows it is read, to the header's last octet.
pub nop_step : (at : ℕ) (rest : List ℕ) → padding_rule at (1 ∷ rest) ≡ nop at ∷ padding_rule (at + 1) rest
nop_step at rest = padding_rule_lem at 1 rest

-- Kind 0 ends the list, and what follows it is not looked at.
pub end_step : (at : ℕ) (rest : List ℕ) → padding_rule at (0 ∷ rest) ≡ end at ∷ []
end_step at rest = padding_rule_lem at 0 rest

-- At a kind that is neither 0 nor 1 the rules read an option, broken or whole.
module _ (at kind : ℕ) (rest : List ℕ) (two : 2 ≤ kind) where
  abbrev left : List ℕ
  left = kind ∷ rest

  abbrev n : ℕ
  n = get_or left 1 0

  by_option : padding_rule at left ≡ option_rule at left
  by_option = padding_rule_lem at kind rest ∙ simp (ne_eqb kind 0 (λ e. omega arith), ne_eqb kind 1 (λ e. omega arith))

  pub broken_step : Broken left → padding_rule at left ≡ broken at ∷ []
  broken_step b = go (is_broken left) refl
    where
      go : (t : Bool) → is_broken left ≡ t → padding_rule at left ≡ broken at ∷ []
      go true e = by_option ∙ option_rule_lem at left ∙ simp e
      go false e = absurd (whole_only left e b)

  pub whole_step : (Broken left → ⊥) → padding_rule at left ≡ whole at (take n left) ∷ padding_rule (at + n) (drop n left)
  whole_step w = go (is_broken left) refl
    where
      go : (t : Bool) → is_broken left ≡ t → padding_rule at left ≡ whole at (take n left) ∷ padding_rule (at + n) (drop n left)
      go true e = absurd (w (broken_only left e))
      go false e = by_option ∙ option_rule_lem at left ∙ simp e

-- the lengths of the known kinds
pub data RightLength : ℕ → ℕ → Type 0 where
  mss : RightLength 2 4
  window_scale : RightLength 3 3
  sack_permitted : RightLength 4 2
  one_block : RightLength 5 10
  two_blocks : RightLength 5 18
  three_blocks : RightLength 5 26
  four_blocks : RightLength 5 34
  timestamps : RightLength 8 10

-- a kind that has a right length
abbrev pub Known : ℕ → Type 0
Known kind = (n : ℕ) × RightLength kind n

-- an option of this kind stands among these steps
abbrev pub Among : ℕ → List Step → Type 0
Among kind steps = (at : ℕ) × (octets : List ℕ) × Memᴰ (whole at octets) steps × (get_or octets 0 0 ≡ kind)

-- the number of a step, given the steps before it: 4, 5 or 6, and 0 where it has no fault
pub data Judged (before : List Step) : Step → ℕ → Type 0 where
  nop_passed : (at : ℕ) → Judged before (nop at) 0
  end_passed : (at : ℕ) → Judged before (end at) 0
  broken_option : (at : ℕ) → Judged before (broken at) 4
  -- also where it is a second one of its kind
  wrong_length : (at : ℕ) (octets : List ℕ) → Known (get_or octets 0 0) → (RightLength (get_or octets 0 0) (length octets) → ⊥)
      → Judged before (whole at octets) 5
  second_time : (at : ℕ) (octets : List ℕ) → RightLength (get_or octets 0 0) (length octets) → Among (get_or octets 0 0) before
      → Judged before (whole at octets) 6
  first_time : (at : ℕ) (octets : List ℕ) → RightLength (get_or octets 0 0) (length octets) → (Among (get_or octets 0 0) before → ⊥)
      → Judged before (whole at octets) 0
  unknown_kind : (at : ℕ) (octets : List ℕ) → (Known (get_or octets 0 0) → ⊥) → Judged before (whole at octets) 0

-- The tests of the definitions.
pub right_known : (kind n : ℕ) → RightLength kind n → (is_known kind ≡ true) × (is_wrong_length kind n ≡ false)
unfolding is_wrong_length stands_in lengths_of
right_known kind n mss = (refl, refl)
right_known kind n window_scale = (refl, refl)
right_known kind n sack_permitted = (refl, refl)
right_known kind n one_block = (refl, refl)
right_known kind n two_blocks = (refl, refl)
right_known kind n three_blocks = (refl, refl)
right_known kind n four_blocks = (refl, refl)
right_known kind n timestamps = (refl, refl)

-- each kind and each length of the table is a right one
kinds_right : Each Known (map (λ k. k.0) known_kinds)
kinds_right = more (4, mss) (more (3, window_scale) (more (2, sack_permitted) (more (10, one_block) (more (10, timestamps) none))))

blocks_right : Each (RightLength 5) (10 ∷ 18 ∷ 26 ∷ 34 ∷ [])
blocks_right = more one_block (more two_blocks (more three_blocks (more four_blocks none)))

lengths_right : (kind n : ℕ) → RightLength kind n → Each (RightLength kind) (lengths_of kind known_kinds)
unfolding lengths_of
lengths_right kind n mss = more mss none
lengths_right kind n window_scale = more window_scale none
lengths_right kind n sack_permitted = more sack_permitted none
lengths_right kind n one_block = blocks_right
lengths_right kind n two_blocks = blocks_right
lengths_right kind n three_blocks = blocks_right
lengths_right kind n four_blocks = blocks_right
lengths_right kind n timestamps = more timestamps none

pub known_only : (kind : ℕ) → is_known kind ≡ true → Known kind
known_only kind e = of_each kinds_right (stands_only kind _ e)

right_only : (kind n : ℕ) → Known kind → is_wrong_length kind n ≡ false → RightLength kind n
unfolding is_wrong_length
right_only kind n (m, r) e =
    let lengths : stands_in n (lengths_of kind known_kinds) ≡ true = not-false _ (rw (right_known kind m r).0 at e) in
    of_each (lengths_right kind m r) (stands_only n _ lengths)

wrong_if : (kind n : ℕ) → Known kind → (RightLength kind n → ⊥) → is_wrong_length kind n ≡ true
wrong_if kind n known wrong = go (is_wrong_length kind n) refl
  where
    go : (t : Bool) → is_wrong_length kind n ≡ t → is_wrong_length kind n ≡ true
    go true e = e
    go false e = absurd (wrong (right_only kind n known e))

wrong_only : (kind n : ℕ) → is_wrong_length kind n ≡ true → Known kind
unfolding is_wrong_length
wrong_only kind n e = known_only kind (both_true (is_known kind) _ e).0

pub known_not : (kind : ℕ) → (Known kind → ⊥) → is_known kind ≡ false
known_not kind unknown = go (is_known kind) refl
  where
    go : (t : Bool) → is_known kind ≡ t → is_known kind ≡ false
    go true e = absurd (unknown (known_only kind e))
    go false e = e

unknown_right : (kind n : ℕ) → (Known kind → ⊥) → (is_wrong_length kind n ≡ false) × ((before : List Step) → is_repeated before kind ≡ false)
unknown_right kind n unknown = unknown_passes kind n (known_not kind unknown)

-- the kind stands before exactly if it is found there
among_found : (kind : ℕ) (steps : List Step) → Among kind steps → is_found (option_of kind steps) ≡ true
among_found kind steps (at, octets, m, same) = go (option_of kind steps) refl
  where
    go : (f : Found) → option_of kind steps ≡ f → is_found f ≡ true
    go (found a o) e = refl
    go nothing e = absurd (nothing_only (kind ∷ []) steps e at octets m (Memᴰ.head same))

found_among : (kind : ℕ) (steps : List Step) → is_found (option_of kind steps) ≡ true → Among kind steps
found_among kind steps e = go (option_of kind steps) refl e
  where
    go : (f : Found) → option_of kind steps ≡ f → is_found f ≡ true → Among kind steps
    go (found a o) same t =
        let f = only_first (kind ∷ []) steps a o same in
        (a, o, first_there (kind ∷ []) steps a o f, Memᴰ.eq_of_singleton f.listed)
    go nothing same t = absurd (true≢false (sym t))

repeated_only : (before : List Step) (kind : ℕ) → is_repeated before kind ≡ true → Known kind × Among kind before
unfolding is_repeated
repeated_only before kind e =
    let tests = both_true (is_known kind) (is_found (option_of kind before)) e in
    (known_only kind tests.0, found_among kind before tests.1)

repeated_if : (before : List Step) (kind n : ℕ) → RightLength kind n → Among kind before → is_repeated before kind ≡ true
unfolding is_repeated
repeated_if before kind n r m i = (right_known kind n r).0 i && among_found kind before m i

repeated_not : (before : List Step) (kind : ℕ) → (Among kind before → ⊥) → is_repeated before kind ≡ false
repeated_not before kind new = go (is_repeated before kind) refl
  where
    go : (t : Bool) → is_repeated before kind ≡ t → is_repeated before kind ≡ false
    go true e = absurd (new (repeated_only before kind e).1)
    go false e = e

-- the number of a right length, by whether the kind repeats
by_tests : (before : List Step) (at : ℕ) (octets : List ℕ) {r : Bool} → is_wrong_length (get_or octets 0 0) (length octets) ≡ false
    → is_repeated before (get_or octets 0 0) ≡ r → fault_at before (whole at octets) ≡ cond r 6 0
unfolding fault_at
by_tests before at octets e f i = cond (e i) 5 (cond (f i) 6 0)

-- E4 before E5 before E6, and each exactly as document 01 says.
pub judged_only : (before : List Step) (step : Step) (n : ℕ) → Judged before step n → fault_at before step ≡ n
unfolding fault_at
judged_only before step n (nop_passed at) = refl
judged_only before step n (end_passed at) = refl
judged_only before step n (broken_option at) = refl
judged_only before step n (wrong_length at octets known wrong) =
    ap (λ (w : Bool). cond w 5 (cond (is_repeated before (get_or octets 0 0)) 6 0)) (wrong_if (get_or octets 0 0) (length octets) known wrong)
judged_only before step n (second_time at octets right m) =
    by_tests before at octets (right_known _ _ right).1 (repeated_if before _ _ right m)
judged_only before step n (first_time at octets right new) =
    by_tests before at octets (right_known _ _ right).1 (repeated_not before _ new)
judged_only before step n (unknown_kind at octets unknown) =
    let right = unknown_right (get_or octets 0 0) (length octets) unknown in
    by_tests before at octets right.0 (right.1 before)

pub judged : (before : List Step) (step : Step) → Judged before step (fault_at before step)
unfolding fault_at
judged before (nop at) = nop_passed at
judged before (end at) = end_passed at
judged before (broken at) = broken_option at
judged before (whole at octets) = go (is_wrong_length kind (length octets)) refl (is_repeated before kind) refl
  where
    kind : ℕ
    kind = get_or octets 0 0

    passed : is_wrong_length kind (length octets) ≡ false → is_repeated before kind ≡ false → (k : Bool) → is_known kind ≡ k → Judged before (whole at octets) 0
    passed e f true k =
        let right = right_only kind (length octets) (known_only kind k) e in
        first_time at octets right (λ m. true≢false (sym (repeated_if before kind (length octets) right m) ∙ f))
    passed e f false k = unknown_kind at octets (λ known. true≢false (sym (right_known kind known.0 known.1).0 ∙ k))

    go : (w : Bool) → is_wrong_length kind (length octets) ≡ w → (r : Bool) → is_repeated before kind ≡ r
        → Judged before (whole at octets) (cond w 5 (cond r 6 0))
    go true e r f =
        wrong_length at octets (wrong_only kind (length octets) e) (λ right. true≢false (sym e ∙ (right_known kind (length octets) right).1))
    go false e true f =
        let again = repeated_only before kind f in
        second_time at octets (right_only kind (length octets) again.0 e) again.1
    go false e false f = passed e f (is_known kind) refl
