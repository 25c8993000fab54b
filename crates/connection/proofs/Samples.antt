-- How many samples a round trip is expected to give, in document 02's words (P4): "outstanding octets before the ACK divided by twice the MSS,
-- rounded up, at least 1 and at most 16; an MSS below 64 counts as 64", and "The record keeps the MSS". Assumes nothing.
use mathlib.Core.Bool.{◌&&◌, and-true}
use mathlib.Core.List.{List, [], ◌∷◌}
use mathlib.Core.Path.{◌≡◌, refl, sym, ap, ◌∙◌}
use Prim.Native.Nat.{ℕ, max, min, ◌+◌, ◌*◌, ◌≤◌, ◌<◌}
use native.Mathlib.Nat.{lt_of_mul-lt-mul_left}
use native.Mathlib.Omega.{arith}
use lib.Dec.{leb}
use borrow.Author.Tests.{le-leb}
use Rattle.std.proofs.lemmas.Grind.{div_ceil_times}
use Rattle.std.specs.Int.{div_ceil}
use Rattle.rto.specs.Timer.{is_accepted, rounded_up}
use Rattle.rto.proofs.Value.{LeastNotBelow, rounded_up_least, rounded_up_only}
use Rattle.connection.specs.declared.Connection.{Connection}
use Rattle.connection.specs.Taking.{expected_samples, record_after, two_segments}
use Rattle.connection.specs.Operations.{acknowledged, expired, sent, window_opened}
use Rattle.connection.specs.Calls.{Call, acknowledgment, arrival, called, expiry, run, sending, window}
use Rattle.connection.proofs.Incoming.{arrived_cases}

-- the record keeps the MSS that its opening gave it
called_mss : (k : Connection) (c : Call) → (called k c).mss ≡ k.mss
unfolding record_after sent window_opened expired acknowledged
called_mss k (arrival clock i) = arrived_cases (λ (r : Connection). r.mss ≡ k.mss) k refl clock i (λ _ _. refl)
called_mss k (sending n) = refl
called_mss k (window n) = refl
called_mss k expiry = refl
called_mss k acknowledgment = refl

pub mss_kept : (calls : List Call) (k : Connection) → (run k calls).mss ≡ k.mss
mss_kept [] k = refl
mss_kept (c ∷ cs) k = mss_kept cs (called k c) ∙ called_mss k c

-- std's `div_ceil` is the same division rounded up
pub ceil_rounds_up : (outstanding c : ℕ) → 0 < c → div_ceil outstanding c ≡ rounded_up outstanding c
ceil_rounds_up outstanding c pos =
    let times = div_ceil_times outstanding c pos in
    sym (rounded_up_only c outstanding pos (div_ceil outstanding c)
    (record { not_below = omega (arith, times.0); least = λ k h. let below : div_ceil outstanding c < k + 1 = lt_of_mul-lt-mul_left c (omega (arith, times.1)) in omega arith }))

-- the three ways by which it is worked out, where c octets are two segments: one sample, sixteen, or the number rounded up
module _ (c outstanding : ℕ) (pos : 0 < c) where
  rounded : LeastNotBelow c outstanding (rounded_up outstanding c)
  rounded = rounded_up_least c outstanding pos

  more : (k : ℕ) → k * c < outstanding → k < rounded_up outstanding c
  more k above = lt_of_mul-lt-mul_left c (omega (arith, rounded.not_below))

  pub one_sample : outstanding ≤ c → min 16 (max 1 (rounded_up outstanding c)) ≡ 1
  one_sample few = omega (arith, rounded.least 1 (omega arith))

  pub sixteen_samples : 15 * c < outstanding → min 16 (max 1 (rounded_up outstanding c)) ≡ 16
  sixteen_samples many = omega (arith, more 15 many)

  pub samples_between : c < outstanding → outstanding ≤ 15 * c
      → (rounded_up outstanding c ≤ 15) × (min 16 (max 1 (rounded_up outstanding c)) ≡ rounded_up outstanding c)
  samples_between low high =
      let most = rounded.least 15 (omega arith) in
      (most, omega (arith, more 1 (omega arith)))

module _ (outstanding mss : ℕ) where
  -- 1 to 16
  pub expected_within : (1 ≤ expected_samples outstanding mss) × (expected_samples outstanding mss ≤ 16)
  expected_within = (omega arith, omega arith)

  -- n is the least whole number not below the outstanding octets divided by twice the MSS
  pub expected_rounds_up : 64 ≤ mss → (n : ℕ) → LeastNotBelow (2 * mss) outstanding n → expected_samples outstanding mss ≡ min 16 (max 1 n)
  expected_rounds_up least n h =
      let is : two_segments mss ≡ 2 * mss = omega arith in
      ap (λ c. min 16 (max 1 (rounded_up outstanding c))) is
      ∙ ap (λ k. min 16 (max 1 k)) (rounded_up_only (2 * mss) outstanding (omega arith) n h)

  -- an MSS below 64 counts as 64
  pub small_mss : mss < 64 → expected_samples outstanding mss ≡ expected_samples outstanding 64
  small_mss below =
      let is : two_segments mss ≡ two_segments 64 = omega arith in
      ap (λ c. min 16 (max 1 (rounded_up outstanding c))) is

  -- so that in a record E14 is a sample above 600,000 alone
  pub record_accepts : (r : ℕ) → is_accepted r (expected_samples outstanding mss) ≡ leb r 600000
  record_accepts r =
      let n = expected_samples outstanding mss in
      (λ i. leb r 600000 && (le-leb 1 n expected_within.0 i && le-leb n 16 expected_within.1 i)) ∙ and-true (leb r 600000)
