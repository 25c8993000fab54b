-- An option that is found lies among the options of the segment. Assumes nothing.
use mathlib.Core.Bool.{Bool, true, false, cond, true≢false}
use mathlib.Core.List.{List, [], ◌∷◌}
use mathlib.Core.Logic.{◌⊎◌, inl, inr}
use mathlib.Core.Path.{◌≡◌, refl, sym, ap, subst, ◌∙◌}
use Prim.Native.Nat.{ℕ, ◌+◌, ◌-◌, ◌*◌, ◌≤◌, ◌<◌}
use native.Mathlib.Nat.{add_assoc, zero-add}
use native.Mathlib.Omega.{arith}
use lib.Dec.{eqb}
use lib.ListN.{drop, get_or, length, length-drop, length-take, take}
use lib.Seq.{get_or-drop, get_or-take, length-take-le}
use denote.Ref.{Bor}
use borrow.Author.Tests.{eqb-true, ne_eqb}
use Rattle.segment.specs.Grammar.{Step, is_broken, length_least, length_most, whole}
use Rattle.segment.specs.Options.{Found, found, is_found, nothing, option_in, stands_in}
use Rattle.segment.specs.Part.{Inside, IsPart, part_of}
use Rattle.segment.specs.Reading.{data_offset, found_option, matching, option_octets, reading, steps_of}
use Rattle.segment.proofs.Readable.{passed}
use Rattle.segment.proofs.ByOctet.{options_there}
use Rattle.segment.proofs.Induction.{Steps, along_rules}
use Rattle.segment.proofs.Membership.{stands_all}

-- `octets` are those of `left` from the j-th on, and their kind and length are as they should be
record Within (kinds left : List ℕ) (j : ℕ) (octets : List ℕ) : Type 0 where
  inside : j + length octets ≤ length left
  there : (k : ℕ) → k < length octets → get_or octets k 0 ≡ get_or left (j + k) 0
  listed : stands_in (get_or octets 0 0) kinds ≡ true
  counted : get_or octets 1 0 ≡ length octets

-- what is found in the steps of `left`, whose place is `at`
abbrev Finds : List ℕ → ℕ → List ℕ → List Step → Type 0
Finds kinds at left steps =
    (place : ℕ) (octets : List ℕ) → option_in kinds steps ≡ found place octets → (j : ℕ) × (place ≡ at + j) × Within kinds left j octets

pub none_found : {T : Type 0} (place : ℕ) (octets : List ℕ) → nothing ≡ found place octets → T
none_found place octets e = absurd (true≢false (sym (ap is_found e)))

abbrev pub octets_of : Found → List ℕ
octets_of nothing = []
octets_of (found place octets) = octets

-- what lies within the octets from the n-th on lies n further within all of them
further : (kinds left : List ℕ) (n j : ℕ) (octets : List ℕ) → n ≤ length left → Within kinds (drop n left) j octets → Within kinds left (n + j) octets
further kinds left n j octets h w = record {
  inside = omega (arith, w.inside, length-drop n left);
  there = λ k q. w.there k q ∙ get_or-drop n left (j + k) 0 ∙ ap (λ (i : ℕ). get_or left i 0) (sym (add_assoc n j k));
  listed = w.listed;
  counted = w.counted;
}

-- a whole option at the start of the octets left, and what follows it
module _ (kinds left : List ℕ) (b : is_broken left ≡ false) where
  abbrev n : ℕ
  n = get_or left 1 0

  size : length (take n left) ≡ n
  size = length-take-le n left (length_most left b)

  kept : (k : ℕ) → k < n → get_or (take n left) k 0 ≡ get_or left k 0
  kept k h = get_or-take n left k 0 h

  at_start : stands_in (get_or (take n left) 0 0) kinds ≡ true → Within kinds left 0 (take n left)
  at_start listed = record {
    inside = omega (arith, size, length_most left b);
    there = λ k h. kept k (omega (arith, size)) ∙ ap (λ (i : ℕ). get_or left i 0) (sym (zero-add k));
    listed = listed;
    counted = kept 1 (omega (arith, length_least left b)) ∙ sym size;
  }

  here_or_later : (at : ℕ) (later : List Step) → Finds kinds (at + n) (drop n left) later → Finds kinds at left (whole at (take n left) ∷ later)
  unfolding option_in
  here_or_later at later finds place octets e = go (stands_in (get_or (take n left) 0 0) kinds) refl e
    where
      go : (t : Bool) → stands_in (get_or (take n left) 0 0) kinds ≡ t → cond t (found at (take n left)) (option_in kinds later) ≡ found place octets
          → (j : ℕ) × (place ≡ at + j) × Within kinds left j octets
      go true s e =
          let same : at ≡ place = cc in
          (0, omega arith, subst (Within kinds left 0) (ap octets_of e) (at_start s))
      go false s e =
          let w = finds place octets e in
          (n + w.0, omega (arith, w.1), further kinds left n w.0 octets (length_most left b) w.2)

module _ (kinds : List ℕ) where
  finds : Steps (Finds kinds)
  unfolding option_in
  finds = record {
    at_none = λ at place octets e. none_found place octets e;
    at_end = λ at rest place octets e. none_found place octets e;
    at_nop = λ at rest later w place octets e.
        let rest_finds = w place octets e in
        (1 + rest_finds.0, omega (arith, rest_finds.1), further kinds (1 ∷ rest) 1 rest_finds.0 octets (omega arith) rest_finds.2);
    at_broken = λ at kind rest k b place octets e. none_found place octets e;
    at_whole = λ at kind rest later k b w. here_or_later kinds (kind ∷ rest) b at later w;
  }

  -- in a segment whose data offset E3 lets pass
  pub in_segment : (s : List ℕ) (place : ℕ) (octets : List ℕ) → 5 ≤ data_offset s → option_in kinds (steps_of s) ≡ found place octets → Inside s kinds place octets
  in_segment s place octets five e =
      let m : ℕ = 4 * data_offset s in
      let header : List ℕ = take (m - 0) s in
      let w = along_rules finds 20 (option_octets s) place octets e in
      let j : ℕ = w.0 in
      let same : option_octets s ≡ drop 20 header = sym (options_there s m refl) in
      let most : length (option_octets s) ≤ m - 20 = omega (arith, ap length same, length-drop 20 header, length-take (m - 0) s) in
      record {
        after_header = omega (arith, w.1);
        before_payload = omega (arith, w.1, w.2.inside);
        octets_there = λ k h.
            w.2.there k h
            ∙ ap (λ (l : List ℕ). get_or l (j + k) 0) same
            ∙ get_or-drop 20 header (j + k) 0
            ∙ get_or-take (m - 0) s (20 + (j + k)) 0 (omega (arith, w.2.inside))
            ∙ ap (λ (i : ℕ). get_or s i 0) (omega (arith, w.1));
        kind_listed = w.2.listed;
        length_counted = w.2.counted;
      }

pub found_inside : (kinds s : List ℕ) (place : ℕ) (octets : List ℕ) → found_option s kinds ≡ found place octets → Inside s kinds place octets
unfolding found_option
found_inside kinds s place octets e = go (eqb (reading s).number 0) refl e
  where
    go : (t : Bool) → eqb (reading s).number 0 ≡ t → cond t (option_in (matching kinds) (steps_of s)) nothing ≡ found place octets → Inside s kinds place octets
    go true z e =
        let i = in_segment (matching kinds) s place octets (passed s (eqb-true _ _ z)).offset_least e in
        record {
          after_header = i.after_header;
          before_payload = i.before_payload;
          octets_there = i.octets_there;
          kind_listed = stands_all _ (get_or octets 0 0) kinds i.kind_listed;
          length_counted = i.length_counted;
        }
    go false z e = none_found place octets e

-- What `find_option` returns is empty or such an option of the segment, at its place; and empty where the segment is refused.
module _ (s kinds : List ℕ) (r : Bor (List ℕ)) (from : ℕ × ℕ) (p : IsPart r from (found_option s kinds)) where
  pub part_inside : (r.now ≡ []) ⊎ ((place : ℕ) × Inside s kinds place r.now × (r.ref_ptr.0 ≡ from.0) × (r.ref_ptr.1 ≡ from.1 + place))
  part_inside = go (found_option s kinds) refl
    where
      go : (f : Found) → found_option s kinds ≡ f → (r.now ≡ []) ⊎ ((place : ℕ) × Inside s kinds place r.now × (r.ref_ptr.0 ≡ from.0) × (r.ref_ptr.1 ≡ from.1 + place))
      go nothing e = inl (p.0 ∙ ap (λ (f : Found). (part_of f).1) e)
      go (found place octets) e =
          let same : r.now ≡ octets = p.0 ∙ ap (λ (f : Found). (part_of f).1) e in
          let there : r.ref_ptr.1 ≡ from.1 + place = p.2 ∙ ap (λ (f : Found). from.1 + (part_of f).0) e in
          inr (place, subst (Inside s kinds place) (sym same) (found_inside kinds s place octets e), p.1, there)

  pub part_empty : ((reading s).number ≡ 0 → ⊥) → r.now ≡ []
  unfolding found_option
  part_empty given = p.0 ∙ simp (ne_eqb _ _ given)
