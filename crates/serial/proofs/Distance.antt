-- `distance_of` is the number that document 01 names, and the only one: the serial lemma that both kinds cite. Assumes nothing.
use Rattle.std.proofs.Common.{◌≡◌, ℕ, suc, ◌+◌, ◌-◌, ◌%◌, ◌^◌, ◌<◌, ◌≤◌, false, ℤ, pos, negsuc, sym, refl, ap, arith, w32, to_z, of_z, le-ltb, lt-ltb}
use native.Mathlib.Decide.{dec_lt}
use lib.IntN.{sub_ℕ}
use lib.Signed.{mag}
use mir.ValLaws.{to_z-of_z}
use Rattle.serial.specs.Serial.{IsDistance, distance_of, is_at_or_before, is_before, moved_by, offset_of}
use Rattle.serial.proofs.Offset.{offset_both_moved}

-- x - y, by the order of x and y
pub sub_cases : (P : ℤ → Type 0) (x y : ℕ) → (y ≤ x → P (pos (x - y))) → (x < y → P (negsuc (y - suc x))) → P (sub_ℕ x y)
sub_cases P x y ahead behind = pick (dec_lt x y)
  where
    pick : Dec (x < y) → P (sub_ℕ x y)
    pick (yes h) = rw (lt-ltb x y h) (behind h)
    pick (no h) = rw (le-ltb x y (omega arith)) (ahead (omega arith))

module _ (a b : ℕ) where
  abbrev shifted : ℕ
  shifted = (offset_of a b + 2 ^ 31) % 2 ^ 32

  pub distance_is : IsDistance a b (distance_of a b)
  unfolding distance_of offset_of
  distance_is = sub_cases (IsDistance a b) shifted (2 ^ 31) (λ order. omega arith) (λ order. omega arith)

  pub distance_only : (z : ℤ) → IsDistance a b z → z ≡ distance_of a b
  unfolding distance_of offset_of
  distance_only (pos n) h =
      sub_cases (λ z. pos n ≡ z) shifted (2 ^ 31) (λ order. ap pos (omega arith)) (λ order. absurd (omega arith))
  distance_only (negsuc n) h =
      sub_cases (λ z. negsuc n ≡ z) shifted (2 ^ 31) (λ order. absurd (omega arith)) (λ order. ap negsuc (omega arith))

-- At 2^31 apart the distance is -2^31 either way, so that neither is before the other, nor at or before it.
half_way : (a b : ℕ) → offset_of a b ≡ 2 ^ 31 → distance_of a b ≡ negsuc (2 ^ 31 - 1)
unfolding offset_of
half_way a b h = sym (distance_only a b (negsuc (2 ^ 31 - 1)) (omega arith))

module _ (a b : ℕ) (h : offset_of a b ≡ 2 ^ 31) where
  back : offset_of b a ≡ 2 ^ 31
  unfolding offset_of
  back = omega arith

  pub neither_before : (is_before a b ≡ false) × (is_before b a ≡ false)
  neither_before = rw (half_way a b h, half_way b a back) (refl, refl)

  pub neither_at_or_before : (is_at_or_before a b ≡ false) × (is_at_or_before b a ≡ false)
  neither_at_or_before = rw (half_way a b h, half_way b a back) (refl, refl)

-- both moved on by n, the distance stays
pub distance_both_moved : (a b n : ℕ) → distance_of (moved_by a n) (moved_by b n) ≡ distance_of a b
unfolding distance_of
distance_both_moved a b n = ap (λ o. sub_ℕ ((o + 2 ^ 31) % 2 ^ 32) (2 ^ 31)) (offset_both_moved a b n)

-- a signed result is what its bits are read as
pub read_back : (z : ℤ) → mag z < 2 ^ 31 → to_z w32 (of_z w32 z) ≡ z
read_back z h = to_z-of_z w32 z (record { sfits = h })
