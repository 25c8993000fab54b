-- The rules by the octets of the header that the code tests. Assumes nothing.
use mathlib.Core.Bool.{Bool, true, false, cond}
use mathlib.Core.List.{List, [], ◌∷◌}
use mathlib.Core.Path.{◌≡◌, refl, sym, ap, ◌∙◌}
use Prim.Native.Nat.{ℕ, zero, suc, ◌+◌, ◌-◌, ◌*◌, ◌≤◌, ◌<◌}
use native.Mathlib.Nat.{add-zero, sub-zero, suc-add, zero-add}
use native.Mathlib.Numerals.{add-one}
use native.Mathlib.Omega.{arith}
use lib.Dec.{eqb}
use lib.ListN.{drop, drop_of_length-le, get_or, length, length-drop, take}
use lib.Seq.{drop-cons, drop-nil, get_or-drop, get_or-take, length-take-le, take_all}
use borrow.Author.Tests.{eq-eqb, ne_eqb}
use Rattle.std.specs.Prelude.{Option, Some, None}
use Rattle.std.proofs.lemmas.Option.{none-some, same_Some}
use Rattle.segment.specs.Grammar.{broken, end, is_broken, length_least, length_most, nop, option_rule_lem, option_rule, padding_none, padding_rule_lem, padding_rule, whole}
use Rattle.segment.specs.Reading.{data_offset, option_octets}

-- the part of a slice from n to its end, `&l[n..]`
pub to_the_end : (n : ℕ) (l : List ℕ) → take (length l - n) (drop n l) ≡ drop n l
to_the_end n l = take_all (length l - n) (drop n l) (simp length-drop (omega arith))

-- the length of a whole option, and none of a broken one
abbrev pub length_if : Bool → ℕ → Option ℕ
length_if cut n = cond cut None (Some n)

broken_if : (cut : Bool) (n : ℕ) → length_if cut n ≡ None → cut ≡ true
broken_if true n e = refl
broken_if false n e = absurd (none-some n (sym e))

whole_if : (cut : Bool) (n m : ℕ) → length_if cut n ≡ Some m → (cut ≡ false) × (m ≡ n)
whole_if true n m e = absurd (none-some m e)
whole_if false n m e = (refl, same_Some m n (sym e))

-- what is read of the octets left, `whole_option(&header[at..])`, says
module _ (header : List ℕ) (at : ℕ) where
  abbrev pub left : List ℕ
  left = take (length header - at) (drop at header)

  pub read_there : length_if (is_broken left) (get_or left 1 0) ≡ length_if (is_broken (drop at header)) (get_or header (at + 1) 0)
  read_there = (λ i. let l = to_the_end at header i in length_if (is_broken l) (get_or l 1 0))
      ∙ ap (length_if (is_broken (drop at header))) (get_or-drop at header 1 0)

  pub broken_there : {answer : Option ℕ} → answer ≡ length_if (is_broken left) (get_or left 1 0) → answer ≡ None → is_broken (drop at header) ≡ true
  broken_there e is = broken_if _ _ (sym (e ∙ read_there) ∙ is)

  pub whole_there : {answer : Option ℕ} {n : ℕ} → answer ≡ length_if (is_broken left) (get_or left 1 0) → answer ≡ Some n
      → (is_broken (drop at header) ≡ false) × (n ≡ get_or header (at + 1) 0)
  whole_there e is = whole_if _ _ _ (sym (e ∙ read_there) ∙ is)

pub drop_further : (m n : ℕ) (l : List ℕ) → drop n (drop m l) ≡ drop (m + n) l
drop_further zero n l = ap (λ (k : ℕ). drop k l) (sym (zero-add n))
drop_further (suc m) n [] = drop-nil n ∙ sym (drop-nil (suc m + n))
drop_further (suc m) n (x ∷ xs) = drop_further m n xs ∙ ap (λ (k : ℕ). drop k (x ∷ xs)) (sym (suc-add m n))

-- the option octets are those of the header, `&s[0..end]`, from 20 on
pub options_there : (s : List ℕ) (m : ℕ) → m ≡ 4 * data_offset s → drop 20 (take (m - 0) s) ≡ option_octets s
options_there s m e = ap (λ (k : ℕ). drop 20 (take k s)) (sub-zero m ∙ e)

-- The padding rule at a place.
pub padding_past : (header : List ℕ) (at : ℕ) → length header ≤ at → padding_rule at (drop at header) ≡ []
padding_past header at h = ap (padding_rule at) (drop_of_length-le header h) ∙ padding_none at

module _ (header : List ℕ) (at : ℕ) (h : at < length header) where
  by_octet : padding_rule at (drop at header)
      ≡ cond (eqb (get_or header at 0) 0) (end at ∷ [])
      (cond (eqb (get_or header at 0) 1) (nop at ∷ padding_rule (at + 1) (drop (at + 1) header)) (option_rule at (drop at header)))
  by_octet =
      let kind : ℕ = get_or header at 0 in
      let there : drop at header ≡ kind ∷ drop (suc at) header = drop-cons header at 0 h in
      let rest : drop (suc at) header ≡ drop (at + 1) header = ap (λ (k : ℕ). drop k header) (sym (add-one at)) in
      ap (padding_rule at) there
      ∙ padding_rule_lem at kind (drop (suc at) header)
      ∙ (λ i. cond (eqb kind 0) (end at ∷ []) (cond (eqb kind 1) (nop at ∷ padding_rule (at + 1) (rest i)) (option_rule at (sym there i))))

  pub padding_end : get_or header at 0 ≡ 0 → padding_rule at (drop at header) ≡ end at ∷ []
  padding_end e = by_octet ∙ simp (eq-eqb _ _ e)

  pub padding_nop : get_or header at 0 ≡ 1 → padding_rule at (drop at header) ≡ nop at ∷ padding_rule (at + 1) (drop (at + 1) header)
  padding_nop e = by_octet ∙ simp e

  pub padding_option : (get_or header at 0 ≡ 0 → ⊥) → (get_or header at 0 ≡ 1 → ⊥) → padding_rule at (drop at header) ≡ option_rule at (drop at header)
  padding_option d e = by_octet ∙ simp (ne_eqb _ _ d, ne_eqb _ _ e)

-- The option rule at a place: kind and length are the octets there.
module _ (header : List ℕ) (at : ℕ) where
  abbrev n : ℕ
  n = get_or header (at + 1) 0

  pub kind_there : get_or (drop at header) 0 0 ≡ get_or header at 0
  kind_there = get_or-drop at header 0 0 ∙ ap (λ (k : ℕ). get_or header k 0) (add-zero at)

  pub length_there : get_or (drop at header) 1 0 ≡ n
  length_there = get_or-drop at header 1 0

  pub option_broken : is_broken (drop at header) ≡ true → option_rule at (drop at header) ≡ broken at ∷ []
  option_broken e = option_rule_lem at (drop at header) ∙ simp e

  module _ (e : is_broken (drop at header) ≡ false) where
    pub octets_least : 2 ≤ n
    octets_least = omega (arith, length_there, length_least (drop at header) e)

    pub octets_most : at + n ≤ length header
    octets_most = omega (arith, length_there, length_least (drop at header) e, length_most (drop at header) e, length-drop at header)

    pub option_whole : option_rule at (drop at header) ≡ whole at (take n (drop at header)) ∷ padding_rule (at + n) (drop (at + n) header)
    option_whole = option_rule_lem at (drop at header) ∙ simp (e, length_there, drop_further at n header)

    pub kind_kept : get_or (take n (drop at header)) 0 0 ≡ get_or header at 0
    kind_kept = get_or-take n (drop at header) 0 0 (omega (arith, octets_least)) ∙ kind_there

    pub length_kept : length (take n (drop at header)) ≡ n
    length_kept = length-take-le n (drop at header) (omega (arith, octets_most, length-drop at header))
