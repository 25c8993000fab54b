-- How many unknown options are skipped, in document 02's words (P6): "on success how many unknown options were skipped". An option with a
-- length is skipped if its kind is not known; NOPs and the end of the list are none. Assumes nothing.
use mathlib.Core.Bool.{Bool, true, false, cond, not, true≢false}
use mathlib.Core.List.{List, [], ◌∷◌}
use mathlib.Core.Path.{◌≡◌, refl, sym, ap, subst, ◌∙◌}
use Prim.Native.Nat.{ℕ, suc, ◌+◌, ◌≤◌, ◌<◌}
use native.Mathlib.Numerals.{add-one}
use native.Mathlib.Omega.{arith}
use lib.Dec.{ltb}
use lib.ListN.{get_or, length}
use Rattle.laws.specs.Lists.{filter}
use Rattle.laws.proofs.Choices.{either}
use Rattle.segment.specs.Grammar.{Step, broken, end, nop, whole}
use Rattle.segment.specs.Options.{is_known, is_skipped, skipped_in}
use Rattle.segment.specs.Reading.{option_octets, read_as, reading, segment_of, steps_of}
use Rattle.segment.specs.declared.Segment.{Segment}
use Rattle.segment.proofs.Bounds.{few_steps, has_length, octets_most}
use Rattle.segment.proofs.Faults.{Known, known_only, known_not, right_known}
use Rattle.segment.proofs.Induction.{along_rules}
use Rattle.segment.proofs.Readable.{fields_are}

-- so many options of unknown kind stand among these steps
pub data Unknown : List Step → ℕ → Type 0 where
  no_step : Unknown [] 0
  after_nop : (at : ℕ) {later : List Step} {n : ℕ} → Unknown later n → Unknown (nop at ∷ later) n
  after_end : (at : ℕ) {later : List Step} {n : ℕ} → Unknown later n → Unknown (end at ∷ later) n
  after_broken : (at : ℕ) {later : List Step} {n : ℕ} → Unknown later n → Unknown (broken at ∷ later) n
  after_known : (at : ℕ) (octets : List ℕ) {later : List Step} {n : ℕ} → Known (get_or octets 0 0) → Unknown later n → Unknown (whole at octets ∷ later) n
  one_more : (at : ℕ) (octets : List ℕ) {later : List Step} {n : ℕ} → (Known (get_or octets 0 0) → ⊥) → Unknown later n
      → Unknown (whole at octets ∷ later) (n + 1)

-- an option whose kind is not known is one more
counted_whole : (at : ℕ) (octets : List ℕ) (later : List Step) (t : Bool) → is_known (get_or octets 0 0) ≡ t → Unknown later (skipped_in later)
    → Unknown (whole at octets ∷ later) (length (cond (not t) (whole at octets ∷ filter is_skipped later) (filter is_skipped later)))
counted_whole at octets later true e rest = after_known at octets (known_only _ e) rest
counted_whole at octets later false e rest =
    subst (Unknown (whole at octets ∷ later)) (add-one (skipped_in later))
    (one_more at octets (λ known. true≢false (sym (right_known _ known.0 known.1).0 ∙ e)) rest)

pub counted : (steps : List Step) → Unknown steps (skipped_in steps)
counted [] = no_step
counted (nop at ∷ later) = after_nop at (counted later)
counted (end at ∷ later) = after_end at (counted later)
counted (broken at ∷ later) = after_broken at (counted later)
counted (whole at octets ∷ later) = counted_whole at octets later (is_known (get_or octets 0 0)) refl (counted later)

-- and no other number is
pub counted_only : (steps : List Step) (n : ℕ) → Unknown steps n → skipped_in steps ≡ n
counted_only steps n no_step = refl
counted_only steps n (after_nop at {later} rest) = counted_only later n rest
counted_only steps n (after_end at {later} rest) = counted_only later n rest
counted_only steps n (after_broken at {later} rest) = counted_only later n rest
counted_only steps n (after_known at octets {later} known rest) =
    simp (right_known _ known.0 known.1).0 (counted_only later n rest)
counted_only steps n (one_more at octets {later} {n = m} unknown rest) =
    simp (known_not _ unknown) (omega (arith, counted_only later m rest))

-- an option that is skipped has a length
skipped_fewer : (header_end : ℕ) (steps : List Step) → skipped_in steps ≤ length (filter (has_length header_end) steps)
skipped_fewer header_end [] = omega arith
skipped_fewer header_end (nop at ∷ later) = skipped_fewer header_end later
skipped_fewer header_end (end at ∷ later) = skipped_fewer header_end later
skipped_fewer header_end (broken at ∷ later) =
    let rest = filter (has_length header_end) later in
    either (λ (l : List Step). skipped_in later ≤ length l) (ltb (at + 1) header_end) (broken at ∷ rest) rest
    (λ _. omega (arith, skipped_fewer header_end later)) (λ _. skipped_fewer header_end later)
skipped_fewer header_end (whole at octets ∷ later) =
    let rest = filter is_skipped later in
    either (λ (l : List Step). length l ≤ suc (length (filter (has_length header_end) later))) (is_skipped (whole at octets)) (whole at octets ∷ rest) rest
    (λ _. omega (arith, skipped_fewer header_end later)) (λ _. omega (arith, skipped_fewer header_end later))

-- of a segment that is read
module _ (s : List ℕ) (w : Segment) (e : reading s ≡ read_as w) where
  pub skipped_is : w.skipped ≡ skipped_in (steps_of s)
  unfolding segment_of
  skipped_is = ap (λ (x : Segment). x.skipped) (fields_are s w e)

  -- as many options of an unknown kind as stand in it
  pub unknown_skipped : Unknown (steps_of s) w.skipped
  unknown_skipped = subst (Unknown (steps_of s)) (sym skipped_is) (counted (steps_of s))

  -- the data offset has four bits
  pub at_most_twenty : get_or s 12 0 < 256 → w.skipped ≤ 20
  at_most_twenty octet =
      let header_end : ℕ = 20 + length (option_octets s) in
      let two_each = (along_rules few_steps 20 (option_octets s)).1 header_end refl in
      omega (arith, skipped_is, skipped_fewer header_end (steps_of s), two_each, octets_most s octet)
