-- Serial numbers that stand for true, unbounded ones: what they say modulo 2^32 of true numbers that are near. One law for both kinds. Assumes
-- nothing.
use Rattle.std.proofs.Common.{◌≡◌, ℕ, ◌+◌, ◌-◌, ◌%◌, ◌^◌, ◌<◌, ◌≤◌, true, false, pos, sym, refl, subst, arith, le-ltb, lt-ltb, le-leb}
use lib.IntN.{sub_ℕ}
use lib.Signed.{lt_z}
use Rattle.serial.specs.Serial.{distance_of, is_at_or_before, is_before, moved_by, offset_of}
use Rattle.serial.proofs.Distance.{distance_only, sub_cases}
use Rattle.serial.proofs.Offset.{offset_only}

-- two numbers less than 2^32 apart that are equal modulo 2^32 are equal
pub same_true : (m n : ℕ) → m % 2 ^ 32 ≡ n % 2 ^ 32 → m < n + 2 ^ 32 → n < m + 2 ^ 32 → m ≡ n
same_true m n same high low = omega arith

-- a number moved on is the true one moved on
pub moved_true : (a m by : ℕ) → a ≡ m % 2 ^ 32 → moved_by a by ≡ (m + by) % 2 ^ 32
moved_true a m by is = omega arith

-- a and b are the true numbers m and n, modulo 2^32
module _ (a b m n : ℕ) (is_m : a ≡ m % 2 ^ 32) (is_n : b ≡ n % 2 ^ 32) where
  pub offset_true : m ≤ n → n < m + 2 ^ 32 → offset_of a b ≡ n - m
  offset_true low high = sym (offset_only a b (n - m) (omega arith) (omega arith))

  -- a number less than 2^31 away is found again by its distance, which is n - m
  pub distance_true : n < m + 2 ^ 31 → m ≤ n + 2 ^ 31 → distance_of a b ≡ sub_ℕ n m
  distance_true high low =
      sub_cases (λ z. distance_of a b ≡ z) n m (λ order. sym (distance_only a b (pos (n - m)) (omega arith)))
      (λ order. sym (distance_only a b _ (omega arith)))

  -- so the order of true numbers is that of the serial numbers
  pub before_true : m < n → n < m + 2 ^ 31 → is_before a b ≡ true
  before_true low high = rw (distance_true high (omega arith), le-ltb n m (omega arith)) (lt-ltb 0 (n - m) (omega arith))

  pub not_before_true : n ≤ m → m ≤ n + 2 ^ 31 → is_before a b ≡ false
  not_before_true low high =
      subst (λ z. lt_z (pos 0) z ≡ false) (sym (distance_true (omega arith) high))
      (sub_cases (λ z. lt_z (pos 0) z ≡ false) n m (λ order. le-ltb 0 (n - m) (omega arith)) (λ order. refl))

  pub at_or_before_true : m ≤ n → n < m + 2 ^ 31 → is_at_or_before a b ≡ true
  at_or_before_true low high = rw (distance_true high (omega arith), le-ltb n m (omega arith)) (le-leb 0 (n - m) (omega arith))
