-- Sound ranges stay sound where a part joins them, and where RCV.NXT advances over one. Assumes nothing.
use mathlib.Core.List.{List, [], ◌∷◌}
use mathlib.Core.Bool.{not}
use mathlib.Core.Logic.{◌⊎◌, inl, inr, ⊎_elim, ⊎_map}
use mathlib.Core.Path.{◌≡◌}
use Prim.Native.Nat.{ℕ, ◌+◌, ◌-◌, ◌^◌, ◌≤◌, ◌<◌}
use native.Mathlib.Omega.{arith}
use lib.Dec.{leb}
use lib.ListN.{length}
use borrow.Author.Tests.{leb-false, leb-true}
use Rattle.serial.specs.Serial.{moved_by}
use Rattle.serial.specs.declared.Range.{Range}
use Rattle.serial.proofs.Offset.{offset_from_moved, offset_moved}
use Rattle.receive.specs.declared.Part.{Part}
use Rattle.laws.specs.Lists.{Each}
use Rattle.laws.specs.Lists.Each.{none, more}
use Rattle.laws.specs.Lists.EachTwo.{more_two}
use Rattle.receive.specs.Ranges.{greatest, joined, least, left_of, meets, met, range_of, right_of, unmet}
use Rattle.receive.specs.Sound.{Apart, Inside, SoundRanges}
use Rattle.laws.proofs.Choices.{both_true, one_false}
use Rattle.laws.proofs.Lists.{across, each_both, each_filter, each_map, each_passes, two_filter, two_map}
use Rattle.receive.proofs.Room.{unmet_most}

turn : (nxt : ℕ) (r s : Range) → Apart nxt r s → Apart nxt s r
turn nxt r s (inl h) = inr h
turn nxt r s (inr h) = inl h

-- how far the ends move
module _ (nxt o : ℕ) where
  pub least_most : (l : List Range) → least nxt o l ≤ o
  least_most [] = omega arith
  least_most (r ∷ l) = omega (arith, least_most l)

  pub greatest_least : (l : List Range) → o ≤ greatest nxt o l
  greatest_least [] = omega arith
  greatest_least (r ∷ l) = omega (arith, greatest_least l)

  module _ {window : ℕ} where
    least_above : {l : List Range} → 0 < o → Each (Inside nxt window) l → 0 < least nxt o l
    least_above h none = h
    least_above h (more i e) = omega (arith, least_above h e)

    greatest_within : {l : List Range} → o ≤ window → Each (Inside nxt window) l → greatest nxt o l ≤ window
    greatest_within h none = h
    greatest_within h (more i e) = omega (arith, greatest_within h e)

module _ (nxt : ℕ) (p : Part) where
  Met : Range → Type 0
  Met r = (left_of nxt r ≤ p.to) × (p.from ≤ right_of nxt r)

  Unmet : Range → Type 0
  Unmet s = (p.to < left_of nxt s) ⊎ (right_of nxt s < p.from)

  each_met : (l : List Range) → Each Met (met nxt p l)
  unfolding meets Met
  each_met l =
      each_map
      (λ r t.
      let tests = both_true (leb (left_of nxt r) p.to) (leb p.from (right_of nxt r)) t in
      (leb-true _ _ tests.0, leb-true _ _ tests.1))
      (each_passes (meets nxt p) l)

  each_unmet : (l : List Range) → Each Unmet (unmet nxt p l)
  unfolding meets Unmet
  each_unmet l =
      each_map
      (λ r t. ⊎_map (leb-false _ _) (leb-false _ _) (one_false (leb (left_of nxt r) p.to) (leb p.from (right_of nxt r)) t))
      (each_passes (λ r. not (meets nxt p r)) l)

  -- a range beside the part is beside the joined part too
  module _ (s : Range) (filled : left_of nxt s < right_of nxt s) where
    stays_left : {l : List Range} → right_of nxt s < p.from → Each Met l → Each (λ r. Apart nxt r s) l
        → right_of nxt s < least nxt p.from l
    unfolding Met
    stays_left h none none = h
    stays_left h (more m e) (more (inl a) d) = absurd (omega arith)
    stays_left h (more m e) (more (inr a) d) = omega (arith, stays_left h e d)

    stays_right : {l : List Range} → p.to < left_of nxt s → Each Met l → Each (λ r. Apart nxt r s) l
        → greatest nxt p.to l < left_of nxt s
    unfolding Met
    stays_right h none none = h
    stays_right h (more m e) (more (inl a) d) = omega (arith, stays_right h e d)
    stays_right h (more m e) (more (inr a) d) = absurd (omega arith)

  module _ (window : ℕ) (l : List Range) (sound : SoundRanges nxt window l) where
    -- what is known of a range that the part does not meet
    abbrev Beside : Range → Type 0
    Beside s = Inside nxt window s × (Unmet s × Each (λ r. Apart nxt r s) (met nxt p l))

    each_beside : Each Beside (unmet nxt p l)
    each_beside =
        each_both (each_filter (λ r. not (meets nxt p r)) sound.inside)
        (each_both (each_unmet l) (across (meets nxt p) (turn nxt) sound.apart))

    pub joined_within : p.to ≤ window → (joined nxt p l).to ≤ window
    unfolding joined
    joined_within h = greatest_within nxt p.to h (each_filter (meets nxt p) sound.inside)

    pub joined_sound : window < 2 ^ 32 → 0 < p.from → p.from < p.to → p.to ≤ window → length (unmet nxt p l) < 8
        → SoundRanges nxt window (range_of nxt (joined nxt p l) ∷ unmet nxt p l)
    unfolding range_of joined left_of right_of Unmet
    joined_sound small above filled within room =
        record {
          few = room;
          inside = more hull (each_filter (λ r. not (meets nxt p r)) sound.inside);
          apart = more_two (each_map hull_apart each_beside) (two_filter (λ r. not (meets nxt p r)) sound.apart);
        }
      where
        left_most : least nxt p.from (met nxt p l) ≤ p.from
        left_most = least_most nxt p.from (met nxt p l)

        right_most : greatest nxt p.to (met nxt p l) ≤ window
        right_most = joined_within within

        left_is : left_of nxt (range_of nxt (joined nxt p l)) ≡ least nxt p.from (met nxt p l)
        left_is = offset_moved nxt _ (omega (arith, left_most))

        right_is : right_of nxt (range_of nxt (joined nxt p l)) ≡ greatest nxt p.to (met nxt p l)
        right_is = offset_moved nxt _ (omega (arith, right_most))

        hull : Inside nxt window (range_of nxt (joined nxt p l))
        hull =
            record {
              above = omega (arith, left_is, least_above nxt p.from above (each_filter (meets nxt p) sound.inside));
              filled = omega (arith, left_is, right_is, left_most, greatest_least nxt p.to (met nxt p l));
              within = omega (arith, right_is, right_most);
            }

        hull_apart : (s : Range) → Beside s → Apart nxt (range_of nxt (joined nxt p l)) s
        hull_apart s k =
            ⊎_map
            (λ h. omega (arith, right_is, stays_right s k.0.filled h (each_met l) k.1.1))
            (λ h. omega (arith, left_is, stays_left s k.0.filled h (each_met l) k.1.1))
            k.1.0

-- RCV.NXT moved on to e, which no range reaches, and a window that ends no earlier than before
module _ (nxt window e next : ℕ) (reaches : window ≤ e + next) where
  Past : Range → Type 0
  Past r = Inside nxt window r × (e < left_of nxt r)

  left_moved : (r : Range) → e < left_of nxt r → left_of (moved_by nxt e) r ≡ left_of nxt r - e
  unfolding left_of
  left_moved r h = offset_from_moved nxt e r.left.0 (omega arith)

  right_moved : (r : Range) → e < right_of nxt r → right_of (moved_by nxt e) r ≡ right_of nxt r - e
  unfolding right_of
  right_moved r h = offset_from_moved nxt e r.right.0 (omega arith)

  inside_moved : (r : Range) → Past r → Inside (moved_by nxt e) next r
  unfolding Past
  inside_moved r k =
      let left = left_moved r k.1 in
      let right = right_moved r (omega arith) in
      record { above = omega arith; filled = omega arith; within = omega arith }

  apart_moved : (r s : Range) → Past r → Past s → Apart nxt r s → Apart (moved_by nxt e) r s
  unfolding Past
  apart_moved r s k m a =
      let left_r = left_moved r k.1 in
      let right_r = right_moved r (omega arith) in
      let left_s = left_moved s m.1 in
      let right_s = right_moved s (omega arith) in
      ⊎_map (λ h. omega arith) (λ h. omega arith) a

pub advanced_sound : (nxt window next : ℕ) (p : Part) (l : List Range) → window ≤ (joined nxt p l).to + next → p.from ≡ 0
    → SoundRanges nxt window l → SoundRanges (moved_by nxt (joined nxt p l).to) next (unmet nxt p l)
unfolding joined Unmet Past
advanced_sound nxt window next p l reaches zero sound =
    record {
      few = omega (arith, sound.few, unmet_most nxt p l);
      inside = each_map (inside_moved nxt window e next reaches) past;
      apart = two_map (apart_moved nxt window e next reaches) past (two_filter (λ r. not (meets nxt p r)) sound.apart);
    }
  where
    e : ℕ
    e = greatest nxt p.to (met nxt p l)

    beyond : (s : Range) → Beside nxt p window l sound s → Past nxt window e next reaches s
    beyond s k = (
      k.0,
      ⊎_elim
          (λ h. stays_right nxt p s k.0.filled h (each_met nxt p l) k.1.1)
          (λ h. absurd (omega arith))
          k.1.0,
    )

    past : Each (Past nxt window e next reaches) (unmet nxt p l)
    past = each_map beyond (each_beside nxt p window l sound)
