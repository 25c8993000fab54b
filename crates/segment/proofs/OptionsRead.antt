-- Options that are written one after the other are read one after the other, for whoever writes a segment: each law tells what an option
-- adds to what is read, whatever follows it. Assumes nothing.
use mathlib.Core.Bool.{Bool, true, false, cond}
use mathlib.Core.List.{List, [], ◌∷◌, ◌++◌, append_assoc, append-nil}
use mathlib.Core.Option.{none}
use mathlib.Core.Path.{◌≡◌, refl, sym, ap, ◌∙◌}
use Prim.Native.Nat.{ℕ, ◌+◌, ◌≤◌}
use native.Mathlib.Omega.{arith}
use lib.Dec.{eqb}
use lib.ListN.{drop, get_or, length, length-append, take}
use lib.Seq.{drop_at, take_at}
use borrow.Author.Tests.{le-ltb, ne_eqb}
use Rattle.segment.specs.Grammar.{Step, is_broken, nop, option_rule_lem, padding_none, padding_rule_lem, padding_rule, whole}
use Rattle.segment.specs.Options.{Found, blocks_of, fault_at, fault_in, found, is_found, is_known, is_repeated, is_wrong_length, mss_of, option_in, option_of, options_of, scale_of, skipped_in, stands_in, timestamps_of}
use Rattle.segment.specs.SackBlocks.{padded}
use Rattle.segment.specs.declared.Options.{Options}
use Rattle.segment.proofs.Gathering.{new_kind, option_after, skipped_after}
use Rattle.segment.proofs.Judging.{SameOptions, no_option}

-- the later steps have no fault, and with those before they say o and skip none
pub record Said (before later : List Step) (o : Options) : Type 0 where
  pub no_fault : fault_in before later ≡ none
  pub options_are : options_of (before ++ later) ≡ o
  pub none_skipped : skipped_in (before ++ later) ≡ 0

-- After options that say o and skip none, the octets left are read without fault, and then the options say o' and skip none; wherever they stand.
pub record Reads (o : Options) (left : List ℕ) (o' : Options) : Type 0 where
  pub steps : (at : ℕ) (before : List Step) → options_of before ≡ o → skipped_in before ≡ 0 → Said before (padding_rule at left) o'

-- a step without fault joins those before
joins : (before : List Step) (step : Step) (later : List Step) (o : Options) → fault_at before step ≡ 0 → Said (before ++ (step ∷ [])) later o
    → Said before (step ∷ later) o
unfolding fault_in
joins before step later o e r = record {
  no_fault = rw e r.no_fault;
  options_are = rw append_assoc at r.options_are;
  none_skipped = rw append_assoc at r.none_skipped;
}

-- options with one more: the field of its kind
abbrev pub with_option : Options → List ℕ → Options
with_option o octets =
    let kind = get_or octets 0 0 in
    let f = found 0 octets in
    record {
      mss = cond (eqb kind 2) (mss_of f) o.mss;
      scale = cond (eqb kind 3) (scale_of f) o.scale;
      permitted = cond (eqb kind 4) (is_found f) o.permitted;
      blocks = cond (eqb kind 5) (padded (blocks_of f)) o.blocks;
      timestamps = cond (eqb kind 8) (timestamps_of f) o.timestamps;
    }

-- what a function makes of either choice
of_choice : {A B : Type 0} (f : A → B) (t : Bool) (x y : A) → f (cond t x y) ≡ cond t (f x) (f y)
of_choice f true x y = refl
of_choice f false x y = refl

-- An option that does not repeat sets the field of its kind, and no other.
module _ (before : List Step) (at : ℕ) (octets : List ℕ) (e : is_repeated before (get_or octets 0 0) ≡ false) where
  field_after : {A : Type 0} (f : Found → A) (k : ℕ) → is_known k ≡ true
      → f (option_of k (before ++ (whole at octets ∷ []))) ≡ cond (eqb (get_or octets 0 0) k) (f (found at octets)) (f (option_of k before))
  field_after f k known =
      ap f (option_after before at octets k (new_kind before at octets e k known))
      ∙ of_choice f (eqb (get_or octets 0 0) k) (found at octets) (option_of k before)

  options_after : options_of (before ++ (whole at octets ∷ [])) ≡ with_option (options_of before) octets
  unfolding options_of stands_in
  options_after =
      let mss = field_after mss_of 2 refl in
      let scale = field_after scale_of 3 refl in
      let permitted = field_after is_found 4 refl in
      let blocks = field_after (λ f. padded (blocks_of f)) 5 refl in
      let timestamps = field_after timestamps_of 8 refl in
      λ i. record { mss = mss i; scale = scale i; permitted = permitted i; blocks = blocks i; timestamps = timestamps i }

-- an option whose length octet counts its octets is not broken
not_broken : (kind n : ℕ) (body rest : List ℕ) → length (kind ∷ n ∷ body) ≡ n → is_broken (kind ∷ n ∷ (body ++ rest)) ≡ false
unfolding is_broken
not_broken kind n body rest size =
    let long : 2 ≤ length (kind ∷ n ∷ (body ++ rest)) = omega arith in
    let least : 2 ≤ n = omega arith in
    let most : n ≤ length (kind ∷ n ∷ (body ++ rest)) = omega (arith, length-append body rest) in
    simp (le-ltb _ _ long, le-ltb _ _ least, le-ltb _ _ most)

option_found : (at kind n : ℕ) (body rest : List ℕ) → 2 ≤ kind → length (kind ∷ n ∷ body) ≡ n
    → padding_rule at (kind ∷ n ∷ (body ++ rest)) ≡ whole at (kind ∷ n ∷ body) ∷ padding_rule (at + n) rest
option_found at kind n body rest k size =
    let left : List ℕ = kind ∷ n ∷ (body ++ rest) in
    let octets : take n left ≡ kind ∷ n ∷ body = take_at (kind ∷ n ∷ body) rest n size in
    let later : drop n left ≡ rest = drop_at (kind ∷ n ∷ body) rest n size in
    padding_rule_lem at kind (n ∷ (body ++ rest))
    ∙ simp (ne_eqb kind 0 (λ e. omega arith), ne_eqb kind 1 (λ e. omega arith))
    (option_rule_lem at left ∙ simp (not_broken kind n body rest size, octets, later))

same_said : (a b : List Step) → SameOptions a b → options_of a ≡ options_of b
unfolding options_of
same_said a b e i = record {
  mss = mss_of (e.found_same (2 ∷ []) i);
  scale = scale_of (e.found_same (3 ∷ []) i);
  permitted = is_found (e.found_same (4 ∷ []) i);
  blocks = padded (blocks_of (e.found_same (5 ∷ []) i));
  timestamps = timestamps_of (e.found_same (8 ∷ []) i);
}

pub none_read : {o : Options} → Reads o [] o
unfolding fault_in
none_read {o} = record {
  steps = λ at before said skips. rw padding_none (record {
    no_fault = refl;
    options_are = ap options_of (append-nil before) ∙ said;
    none_skipped = ap skipped_in (append-nil before) ∙ skips;
  });
}

module _ {o : Options} {rest : List ℕ} {o' : Options} where
  pub nop_read : Reads o rest o' → Reads o (1 ∷ rest) o'
  unfolding fault_at option_in
  nop_read then = record {
    steps = λ at before said skips.
        let same : SameOptions before (before ++ (nop at ∷ [])) = no_option before (nop at) (λ kinds. refl) refl in
        rw padding_rule_lem (joins before (nop at) (padding_rule (at + 1) rest) o' refl
        (then.steps (at + 1) (before ++ (nop at ∷ [])) (sym (same_said before _ same) ∙ said) (sym same.skipped_same ∙ skips)));
  }

  -- any option of a known kind and a right length whose kind is new
  pub option_read : (kind n : ℕ) (body : List ℕ) → 2 ≤ kind → is_known kind ≡ true → length (kind ∷ n ∷ body) ≡ n → is_wrong_length kind n ≡ false
      → ((before : List Step) → options_of before ≡ o → is_repeated before kind ≡ false)
      → Reads (with_option o (kind ∷ n ∷ body)) rest o' → Reads o (kind ∷ n ∷ (body ++ rest)) o'
  unfolding fault_at
  option_read kind n body k known size right new then = record {
    steps = λ at before said skips.
        let octets : List ℕ = kind ∷ n ∷ body in
        let fits : is_wrong_length kind (length octets) ≡ false = ap (is_wrong_length kind) size ∙ right in
        let after = options_after before at octets (new before said) ∙ ap (λ (x : Options). with_option x octets) said in
        rw (option_found at kind n body rest k size)
        (joins before (whole at octets) (padding_rule (at + n) rest) o' (simp (fits, new before said))
        (then.steps (at + n) (before ++ (whole at octets ∷ [])) after (skipped_after before at octets ∙ rw (skips, known))));
  }
