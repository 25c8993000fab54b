-- Each step of the rules stands where it says: its place is 20 and the octets of the steps before it, and the octets there show it. Assumes
-- nothing.
use mathlib.Core.Bool.{true, false}
use mathlib.Core.List.Memᴰ
use mathlib.Core.List.{List, [], ◌∷◌, ◌++◌, Memᴰ}
use mathlib.Core.Logic.{◌⊎◌, inl, inr}
use mathlib.Core.Path.{◌≡◌, refl, sym, ap, subst, ◌∙◌}
use Prim.Native.Nat.{ℕ, ◌+◌, ◌*◌, ◌≤◌, ◌<◌}
use native.Mathlib.Omega.{arith}
use lib.ListN.{drop, get_or, length, length-drop, length-take, take}
use lib.Seq.{get_or-take, length-take-le}
use Rattle.laws.specs.Lists.{Each, EachTwo}
use Rattle.laws.specs.Lists.Each.{none, more}
use Rattle.laws.specs.Lists.EachTwo.{no_two, more_two}
use Rattle.laws.proofs.Lists.{each_map}
use Rattle.segment.specs.Grammar.{Step, broken, end, is_broken, length_least, length_most, nop, whole}
use Rattle.segment.specs.Options.{step_place}
use Rattle.segment.specs.Reading.{data_offset, option_octets, steps_of}
use Rattle.segment.proofs.ByOctet.{drop_further, kind_kept, kind_there, length_kept, length_there, octets_least, octets_most}
use Rattle.segment.proofs.Induction.{Steps, along_rules}

-- how many octets a step takes: a NOP and kind 0 one, an option its own; after a broken one nothing is read
abbrev pub size_of : Step → ℕ
size_of (nop at) = 1
size_of (end at) = 1
size_of (broken at) = 0
size_of (whole at octets) = length octets

abbrev pub octets_in : List Step → ℕ
octets_in [] = 0
octets_in (step ∷ later) = size_of step + octets_in later

-- steps one after the other, the first of them at a place
data Placed : ℕ → List Step → Type 0 where
  placed_none : {at : ℕ} → Placed at []
  placed_more : {at : ℕ} {step : Step} {later : List Step} → step_place step ≡ at → Placed (at + size_of step) later → Placed at (step ∷ later)

placed_there : (at : ℕ) (before : List Step) (step : Step) (after : List Step) → Placed at (before ++ (step ∷ after)) → step_place step ≡ at + octets_in before
placed_there at [] step after (placed_more here later) = omega arith
placed_there at (x ∷ before) step after (placed_more here later) = omega (arith, placed_there (at + size_of x) before step after later)

-- a step as the octets from its place on show it
abbrev pub Shows : List ℕ → Step → Type 0
Shows left (nop at) = get_or left 0 0 ≡ 1
Shows left (end at) = get_or left 0 0 ≡ 0
Shows left (broken at) = (2 ≤ get_or left 0 0) × (is_broken left ≡ true)
Shows left (whole at octets) = (2 ≤ get_or left 0 0) × (is_broken left ≡ false) × (octets ≡ take (get_or left 1 0) left)

-- of octets whose place is `at`, those from the j-th on show the step
abbrev ShownFrom : ℕ → List ℕ → Step → Type 0
ShownFrom at left step = (j : ℕ) × (step_place step ≡ at + j) × (j < length left) × Shows (drop j left) step

abbrev pub Before : Step → Step → Type 0
Before x y = step_place x < step_place y

abbrev InOrder : ℕ → List ℕ → List Step → Type 0
InOrder at left steps = Placed at steps × Each (ShownFrom at left) steps × EachTwo Before steps

-- a step at the start, and those of the octets after it
in_order_on : (at n : ℕ) (left : List ℕ) (step : Step) (later : List Step) → step_place step ≡ at → size_of step ≡ n → 0 < n → 0 < length left → Shows left step
    → InOrder (at + n) (drop n left) later → InOrder at left (step ∷ later)
in_order_on at n left step later here size some filled shows (placed, each, two) = (
  placed_more here (subst (λ (k : ℕ). Placed (at + k) later) (sym size) placed),
  more {x = step} (0, omega arith, filled, shows) (each_map further each),
  more_two (each_map behind each) two,
)
  where
    further : (y : Step) → ShownFrom (at + n) (drop n left) y → ShownFrom at left y
    further y (j, place, within, there) = (
      n + j,
      omega arith,
      omega (arith, length-drop n left),
      subst (λ (l : List ℕ). Shows l y) (drop_further n j left) there,
    )

    behind : (y : Step) → ShownFrom (at + n) (drop n left) y → Before step y
    behind y (j, place, within, there) = omega arith

in_order : Steps InOrder
in_order = record {
  at_none = λ at. (placed_none, none, no_two);
  at_end = λ at rest. (placed_more refl placed_none, more {x = end at} (0, omega arith, omega arith, refl) none, more_two none no_two);
  at_nop = λ at rest later o. in_order_on at 1 (1 ∷ rest) (nop at) later refl refl (omega arith) (omega arith) refl o;
  at_broken = λ at kind rest two b.
      (placed_more refl placed_none, more {x = broken at} (0, omega arith, omega arith, (two, b)) none, more_two none no_two);
  at_whole = λ at kind rest later two b o.
      let left : List ℕ = kind ∷ rest in
      let n : ℕ = get_or left 1 0 in
      in_order_on at n left (whole at (take n left)) later refl (length-take-le n left (length_most left b)) (omega (arith, length_least left b)) (omega arith)
      (two, b, refl) o;
}

-- a step of the segment
pub record ShownIn (s : List ℕ) (step : Step) : Type 0 where
  pub after_header : 20 ≤ step_place step
  pub before_payload : step_place step < 4 * data_offset s
  pub shows : Shows (drop (step_place step) (take (4 * data_offset s) s)) step

module _ (s : List ℕ) where
  abbrev header : List ℕ
  header = take (4 * data_offset s) s

  shown_in : (step : Step) → ShownFrom 20 (option_octets s) step → ShownIn s step
  shown_in step (j, place, within, there) = record {
    after_header = omega arith;
    before_payload = omega (arith, length-drop 20 header, length-take (4 * data_offset s) s);
    shows = subst (λ (l : List ℕ). Shows l step) (drop_further 20 j header ∙ ap (λ (k : ℕ). drop k header) (sym place)) there;
  }

  pub each_shown : Each (ShownIn s) (steps_of s)
  each_shown = each_map shown_in (along_rules in_order 20 (option_octets s)).1

  pub ascending : EachTwo Before (steps_of s)
  ascending = (along_rules in_order 20 (option_octets s)).2

  -- the place of a step, counted from the segment's first octet: the fixed header's 20 and the octets of the steps before it
  pub place_counted : (before : List Step) (step : Step) (after : List Step) → steps_of s ≡ before ++ (step ∷ after) → step_place step ≡ 20 + octets_in before
  place_counted before step after stands = placed_there 20 before step after (subst (Placed 20) stands (along_rules in_order 20 (option_octets s)).0)

  -- the octet at the place is the kind
  pub kind_at : (at : ℕ) → at < 4 * data_offset s → get_or (drop at header) 0 0 ≡ get_or s at 0
  kind_at at within = kind_there header at ∙ get_or-take (4 * data_offset s) s at 0 within

  -- an option that is not broken has the segment's octets: its kind and its length are there
  module _ (at : ℕ) (octets : List ℕ) (h : ShownIn s (whole at octets)) where
    octets_are : octets ≡ take (get_or header (at + 1) 0) (drop at header)
    octets_are = h.shows.2 ∙ ap (λ (k : ℕ). take k (drop at header)) (length_there header at)

    pub kind_is : get_or octets 0 0 ≡ get_or s at 0
    kind_is =
        ap (λ (l : List ℕ). get_or l 0 0) octets_are
        ∙ kind_kept header at h.shows.1
        ∙ get_or-take (4 * data_offset s) s at 0 h.before_payload

    pub length_is : length octets ≡ get_or s (at + 1) 0
    length_is =
        let least = octets_least header at h.shows.1 in
        let most = octets_most header at h.shows.1 in
        ap length octets_are
        ∙ length_kept header at h.shows.1
        ∙ get_or-take (4 * data_offset s) s (at + 1) 0 (omega (arith, least, most, length-take (4 * data_offset s) s))

-- a step with others before and after it
module _ {P : Step → Type 0} where
  pub each_there : (before : List Step) (step : Step) (after : List Step) → Each P (before ++ (step ∷ after)) → P step
  each_there [] step after (more h e) = h
  each_there (x ∷ before) step after (more h e) = each_there before step after e

pub earlier_before : (x : Step) (before : List Step) (step : Step) (after : List Step) → EachTwo Before (before ++ (step ∷ after)) → Memᴰ x before
    → Before x step
earlier_before x [] step after e m = absurd (Memᴰ.not-nil m)
earlier_before x (y ∷ before) step after (more_two h e) m = go (Memᴰ.cases_cons m) (earlier_before x before step after e)
  where
    go : (x ≡ y) ⊎ Memᴰ x before → (Memᴰ x before → Before x step) → Before x step
    go (inl same) rest = subst (λ (z : Step). Before z step) (sym same) (each_there before step after h)
    go (inr later) rest = rest later
