-- The two rules that read the options (document 01, "Reading a segment"): each passes what is left to the other. They split the octets into
-- steps and judge no option.
use Rattle.std.specs.Prelude.{ℕ, zero, suc, ◌+◌, ◌*◌, ◌≤◌, Bool, true, false, cond, ◌||◌, List, [], ◌∷◌, ◌≡◌, refl, eqb, ltb, drop, get_or, length, take}
use Rattle.std.proofs.Common.{add-one, arith, ◌∙◌, length-drop, ltb-false}
use Rattle.laws.proofs.Choices.{neither}

-- A step of the rules, with its place in the segment: a NOP, the end of the list, or an option. A whole option has its octets, kind and
-- length included; after a broken one nothing is read.
pub data Step : Type 0 where
  nop : ℕ → Step
  end : ℕ → Step
  whole : ℕ → List ℕ → Step
  broken : ℕ → Step

-- an option without length octet, with a length under 2, or with one past the header (E4)
unfoldable pub is_broken : List ℕ → Bool
is_broken left = ltb (length left) 2 || (ltb (get_or left 1 0) 2 || ltb (length left) (get_or left 1 0))

-- The first argument bounds the calls that follow; document 01's measure is enough for it: twice the octets left, plus one in the padding
-- rule. The second is the place of the octets left. The equations at this file's end are the rules without the bound.
unfoldable mutual
  -- passes kind 1 (NOP) octets and ends the list at kind 0, whose followers are not looked at, or at the header's end
  pub padding : ℕ → ℕ → List ℕ → List Step
  padding zero at left = []
  padding (suc k) at [] = []
  padding (suc k) at (kind ∷ rest) =
      let later = padding k (at + 1) rest in
      let read = option k at (kind ∷ rest) in
      cond (eqb kind 0) (end at ∷ []) (cond (eqb kind 1) (nop at ∷ later) read)

  -- reads one kind, length and body
  pub option : ℕ → ℕ → List ℕ → List Step
  option zero at left = broken at ∷ []
  option (suc k) at left =
      let n = get_or left 1 0 in
      let later = padding k (at + n) (drop n left) in
      cond (is_broken left) (broken at ∷ []) (whole at (take n left) ∷ later)

unfoldable pub padding_rule : ℕ → List ℕ → List Step
padding_rule at left = padding (2 * length left + 1) at left

unfoldable pub option_rule : ℕ → List ℕ → List Step
option_rule at left = option (2 * length left) at left

-- The length of an option that is not broken counts at least its kind and itself, and at most what is left.
module _ (left : List ℕ) (e : is_broken left ≡ false) where
  tests : (ltb (get_or left 1 0) 2 ≡ false) × (ltb (length left) (get_or left 1 0) ≡ false)
  unfolding is_broken
  tests = neither (ltb (get_or left 1 0) 2) (ltb (length left) (get_or left 1 0)) (neither (ltb (length left) 2) _ e).1

  pub length_least : 2 ≤ get_or left 1 0
  length_least = ltb-false _ _ tests.0

  pub length_most : get_or left 1 0 ≤ length left
  length_most = ltb-false _ _ tests.1

-- Any two bounds that are at least the measure give the same steps.
mutual
  unfolding padding is_broken

  padding_bound : (j k at : ℕ) (left : List ℕ) → 2 * length left + 1 ≤ j → 2 * length left + 1 ≤ k → padding j at left ≡ padding k at left
  padding_bound zero k at left p q = absurd (omega arith)
  padding_bound (suc j) zero at left p q = absurd (omega arith)
  padding_bound (suc j) (suc k) at [] p q = refl
  padding_bound (suc j) (suc k) at (kind ∷ rest) p q =
      let later : padding j (at + 1) rest ≡ padding k (at + 1) rest = padding_bound j k (at + 1) rest (omega arith) (omega arith) in
      let read : option j at (kind ∷ rest) ≡ option k at (kind ∷ rest) = option_bound j k at (kind ∷ rest) (omega arith) (omega arith) in
      simp (later, read)

  option_bound : (j k at : ℕ) (left : List ℕ) → 2 * length left ≤ j → 2 * length left ≤ k → option j at left ≡ option k at left
  option_bound zero zero at left p q = refl
  option_bound zero (suc k) at [] p q = refl
  option_bound zero (suc k) at (x ∷ xs) p q = absurd (omega arith)
  option_bound (suc j) zero at [] p q = refl
  option_bound (suc j) zero at (x ∷ xs) p q = absurd (omega arith)
  option_bound (suc j) (suc k) at left p q = go (is_broken left) refl (λ a l p' q'. padding_bound j k a l p' q')
    where
      go : (t : Bool) → is_broken left ≡ t
          → ((a : ℕ) (l : List ℕ) → 2 * length l + 1 ≤ j → 2 * length l + 1 ≤ k → padding j a l ≡ padding k a l)
          → option (suc j) at left ≡ option (suc k) at left
      go true e rest = simp e
      go false e rest =
          let n : ℕ = get_or left 1 0 in
          let least : 2 ≤ n = length_least left e in
          let most : n ≤ length left = length_most left e in
          let later : padding j (at + n) (drop n left) ≡ padding k (at + n) (drop n left) =
          rest (at + n) (drop n left) (simp length-drop (omega arith)) (simp length-drop (omega arith)) in
          simp (e, later)

-- The rules without the bound.
pub padding_none : (at : ℕ) → padding_rule at [] ≡ []
unfolding padding_rule padding
padding_none at = refl

pub padding_rule_lem : (at kind : ℕ) (rest : List ℕ) → padding_rule at (kind ∷ rest)
    ≡ cond (eqb kind 0) (end at ∷ []) (cond (eqb kind 1) (nop at ∷ padding_rule (at + 1) rest) (option_rule at (kind ∷ rest)))
unfolding padding_rule option_rule padding
padding_rule_lem at kind rest =
    let enough = padding_bound (2 * suc (length rest)) (2 * length rest + 1) (at + 1) rest (omega arith) (omega arith) in
    rw (add-one (2 * suc (length rest))) (simp enough)

pub option_rule_lem : (at : ℕ) (left : List ℕ) → option_rule at left
    ≡ cond (is_broken left) (broken at ∷ []) (whole at (take (get_or left 1 0) left) ∷ padding_rule (at + get_or left 1 0) (drop (get_or left 1 0) left))
unfolding padding_rule option_rule padding
option_rule_lem at left = go (is_broken left) refl
  where
    once : option_rule at left ≡ option (suc (2 * length left)) at left
    once = option_bound (2 * length left) (suc (2 * length left)) at left (omega arith) (omega arith)

    go : (t : Bool) → is_broken left ≡ t → option_rule at left
        ≡ cond t (broken at ∷ []) (whole at (take (get_or left 1 0) left) ∷ padding_rule (at + get_or left 1 0) (drop (get_or left 1 0) left))
    go true e = once ∙ simp e
    go false e =
        let n : ℕ = get_or left 1 0 in
        let least : 2 ≤ n = length_least left e in
        let most : n ≤ length left = length_most left e in
        let enough : padding (2 * length left) (at + n) (drop n left) ≡ padding (2 * length (drop n left) + 1) (at + n) (drop n left) =
        padding_bound (2 * length left) (2 * length (drop n left) + 1) (at + n) (drop n left) (simp length-drop (omega arith)) (omega arith) in
        once ∙ simp (e, enough)
