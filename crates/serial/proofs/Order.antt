-- Which of two numbers is before the other, and by how much, by the offset of one from the other: one law for both kinds. Assumes nothing.
use Rattle.std.proofs.Common.{◌≡◌, ℕ, zero, suc, ◌-◌, ◌^◌, ◌<◌, ◌≤◌, true, false, ltb, ◌↔◌, pos, negsuc, neg_ℤ, sym, refl, ap, ◌∙◌, arith, ltb-true, le-ltb, lt-ltb, le-leb}
use mathlib.Core.Bool.{false≢true}
use native.Mathlib.Decide.{dec_lt}
use lib.Signed.{le_z, lt_z}
use Rattle.serial.specs.Serial.{distance_of, is_at_or_before, is_before, offset_of}
use Rattle.serial.proofs.Distance.{distance_only}
use Rattle.serial.proofs.Offset.{moved_offset, offset_back, offset_below}

module _ (a b : ℕ) where
  abbrev o : ℕ
  o = offset_of a b

  -- an offset below 2^31 is the distance itself; a larger one is 2^32 more than the distance
  pub distance_ahead : o < 2 ^ 31 → distance_of a b ≡ pos o
  distance_ahead h = sym (distance_only a b (pos o) (omega (arith, moved_offset a b)))

  pub distance_behind : 2 ^ 31 ≤ o → distance_of a b ≡ negsuc (2 ^ 32 - 1 - o)
  distance_behind h = sym (distance_only a b (negsuc (2 ^ 32 - 1 - o)) (omega (arith, moved_offset a b, offset_below a b)))

  -- a before b: the distance is above 0
  abbrev pub Before : Type 0
  Before = (0 < o) × (o < 2 ^ 31)

  pub before_exactly : is_before a b ≡ true ↔ Before
  before_exactly = pick (dec_lt o (2 ^ 31))
    where
      pick : Dec (o < 2 ^ 31) → is_before a b ≡ true ↔ Before
      pick (yes h) =
          let e : is_before a b ≡ ltb 0 o = ap (lt_z (pos 0)) (distance_ahead h) in
          (λ t. (ltb-true 0 o (sym e ∙ t), h), λ k. e ∙ lt-ltb 0 o k.0)
      pick (no h) =
          let e : is_before a b ≡ false = ap (lt_z (pos 0)) (distance_behind (omega arith)) in
          (λ t. absurd (false≢true (sym e ∙ t)), λ k. absurd (h k.1))

  -- a at or before b: it is at least 0
  abbrev pub AtOrBefore : Type 0
  AtOrBefore = o < 2 ^ 31

  pub at_or_before_exactly : is_at_or_before a b ≡ true ↔ AtOrBefore
  at_or_before_exactly = pick (dec_lt o (2 ^ 31))
    where
      pick : Dec (o < 2 ^ 31) → is_at_or_before a b ≡ true ↔ AtOrBefore
      pick (yes h) = (λ _. h, λ _. ap (le_z (pos 0)) (distance_ahead h) ∙ le-leb 0 o (omega arith))
      pick (no h) =
          let e : is_at_or_before a b ≡ false = ap (le_z (pos 0)) (distance_behind (omega arith)) in
          (λ t. absurd (false≢true (sym e ∙ t)), λ k. absurd (h k))

  -- b lies more than n before a: the distance from a to b is below -n, so that the offset of a from b is above n and at most 2^31
  abbrev pub MoreBefore : ℕ → Type 0
  MoreBefore n = (n < offset_of b a) × (offset_of b a ≤ 2 ^ 31)

  pub more_before_exactly : (n : ℕ) → lt_z (distance_of a b) (neg_ℤ (pos n)) ≡ true ↔ MoreBefore n
  more_before_exactly n = pick (dec_lt o (2 ^ 31))
    where
      ahead : (m : ℕ) → lt_z (pos o) (neg_ℤ (pos m)) ≡ false
      ahead zero = le-ltb o 0 (omega arith)
      ahead (suc m) = refl

      behind : (d m : ℕ) → lt_z (negsuc d) (neg_ℤ (pos m)) ≡ true ↔ m < suc d
      behind d zero = (λ _. omega arith, λ _. refl)
      behind d (suc m) = (λ t. omega (arith, ltb-true m d t), λ h. lt-ltb m d (omega arith))

      pick : Dec (o < 2 ^ 31) → lt_z (distance_of a b) (neg_ℤ (pos n)) ≡ true ↔ MoreBefore n
      pick (yes h) =
          let e : lt_z (distance_of a b) (neg_ℤ (pos n)) ≡ false = ap (λ z. lt_z z (neg_ℤ (pos n))) (distance_ahead h) ∙ ahead n in
          (λ t. absurd (false≢true (sym e ∙ t)), λ k. absurd (omega (arith, offset_back a b)))
      pick (no h) =
          let e = ap (λ z. lt_z z (neg_ℤ (pos n))) (distance_behind (omega arith)) in
          let below = behind (2 ^ 32 - 1 - o) n in
          let back : offset_of b a ≡ 2 ^ 32 - o = omega (arith, offset_back a b, offset_below a b, offset_below b a) in
          (λ t. (omega (arith, below.0 (sym e ∙ t), offset_below a b), omega arith), λ k. e ∙ below.1 (omega arith))
