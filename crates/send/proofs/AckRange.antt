-- Which ACKs are too old (document 02, P5), and the range of RFC 5961 that 29 and 31 leave. Assumes nothing.
use mathlib.Core.Bool.{true, false, ◌&&◌}
use mathlib.Core.Logic.{◌↔◌}
use mathlib.Core.Path.{◌≡◌, sym}
use Prim.Native.Nat.{ℕ, ◌+◌, ◌-◌, ◌%◌, ◌^◌, ◌<◌, ◌≤◌}
use native.Mathlib.Decide.{dec_lt}
use native.Mathlib.Omega.{arith}
use lib.Dec.{leb, ltb}
use Rattle.laws.proofs.Tests.{at_most, below, both, fails_exactly, same_test}
use Rattle.serial.specs.Serial.{moved_by, offset_of}
use Rattle.serial.proofs.Offset.{offset_around, offset_back, offset_below, offset_between, offset_only, offset_sum}
use Rattle.serial.proofs.Order.{Before, more_before_exactly}
use Rattle.send.specs.Send.{is_too_old, is_unsent, outstanding}
use Rattle.send.specs.declared.Send.{Send}
use Rattle.send.proofs.Laws.{unsent_exactly}

module _ (s : Send) (ack : ℕ) where
  -- (UNA - ACK) mod 2^32
  abbrev back : ℕ
  back = offset_of ack s.una.0

  -- 31: it is above the largest SND.WND, and at most 2^31
  abbrev pub TooOld : Type 0
  TooOld = (s.largest < back) × (back ≤ 2 ^ 31)

  pub too_old_exactly : is_too_old s ack ≡ true ↔ TooOld
  unfolding is_too_old
  too_old_exactly = more_before_exactly s.una.0 ack s.largest

  -- the same as two tests
  pub too_old_tests : is_too_old s ack ≡ ltb s.largest back && leb back (2 ^ 31)
  too_old_tests = same_test _ _ too_old_exactly (both _ _ (below s.largest back) (at_most back (2 ^ 31)))

  -- an ACK n octets before UNA, up to 2^31 of them, is too old exactly if n is above the largest SND.WND; one at UNA or past it is not
  pub before_una : (n : ℕ) → n ≤ 2 ^ 31 → moved_by ack n ≡ s.una.0 % 2 ^ 32 → is_too_old s ack ≡ true ↔ s.largest < n
  before_una n most leads =
      let is : n ≡ back = offset_only ack s.una.0 n (omega arith) leads in
      (λ t. omega (arith, is, (too_old_exactly.0 t).0), λ far. too_old_exactly.1 (omega arith, omega arith))

  pub past_una : (n : ℕ) → n < 2 ^ 31 → moved_by s.una.0 n ≡ ack % 2 ^ 32 → is_too_old s ack ≡ false
  past_una n small leads =
      let is : n ≡ offset_of s.una.0 ack = offset_only s.una.0 ack n (omega arith) leads in
      (fails_exactly (is_too_old s ack) too_old_exactly).1 (λ old. omega (arith, offset_back s.una.0 ack))

  -- an ACK 2^31 away counts as too old
  pub half_way_too_old : s.largest < 2 ^ 31 → offset_of s.una.0 ack ≡ 2 ^ 31 → is_too_old s ack ≡ true
  half_way_too_old small apart =
      let half : back ≡ 2 ^ 31 = omega (arith, offset_back s.una.0 ack, offset_below ack s.una.0) in
      too_old_exactly.1 (omega arith, omega arith)

-- RFC 5961: "(SND.UNA - MAX.SND.WND) <= SEG.ACK <= SND.NXT", in offsets from a number that is the largest SND.WND before UNA
module _ (s : Send) (ack low : ℕ) (leads : moved_by low s.largest ≡ s.una.0 % 2 ^ 32) (fits : s.largest + outstanding s < 2 ^ 31) where
  una_from_low : offset_of low s.una.0 ≡ s.largest
  una_from_low = sym (offset_only low s.una.0 s.largest (omega arith) leads)

  nxt_from_low : offset_of low s.nxt.0 ≡ s.largest + outstanding s
  nxt_from_low = omega (arith, offset_sum low s.una.0 s.nxt.0, una_from_low)

  abbrev pub InAckRange : Type 0
  InAckRange = offset_of low ack ≤ offset_of low s.nxt.0

  -- an ACK in the range is neither past NXT nor too old
  not_unsent : InAckRange → ¬ Before s.nxt.0 ack
  not_unsent within before = pick (dec_lt (offset_of low ack) (offset_of low s.nxt.0))
    where
      pick : Dec (offset_of low ack < offset_of low s.nxt.0) → ⊥
      pick (yes less) = omega (arith, before, fits, nxt_from_low, offset_around low s.nxt.0 ack less)
      pick (no most) = omega (arith, before, within, offset_between low s.nxt.0 ack (omega arith))

  pub range_exactly : ((is_unsent s ack ≡ false) × (is_too_old s ack ≡ false)) ↔ InAckRange
  range_exactly =
      let unsent = fails_exactly (is_unsent s ack) (unsent_exactly s ack) in
      let old = fails_exactly (is_too_old s ack) (too_old_exactly s ack) in (
        λ h. pick (dec_lt (offset_of low s.nxt.0) (offset_of low ack)) (unsent.0 h.0) (old.0 h.1),
        λ within. (unsent.1 (not_unsent within), old.1 (not_too_old within)),
      )
    where
      not_too_old : InAckRange → ¬ TooOld s ack
      not_too_old within old = pick (dec_lt (offset_of low s.una.0) (offset_of low ack))
        where
          pick : Dec (offset_of low s.una.0 < offset_of low ack) → ⊥
          pick (yes past) = omega (arith, old, within, fits, una_from_low, nxt_from_low, offset_around low ack s.una.0 past)
          pick (no most) = omega (arith, old, una_from_low, offset_between low ack s.una.0 (omega arith))

      -- one that is outside is past NXT or too old
      too_old_if : offset_of low s.nxt.0 < offset_of low ack → ¬ Before s.nxt.0 ack → TooOld s ack
      too_old_if past sent = pick (dec_lt (offset_of s.nxt.0 ack) (2 ^ 31))
        where
          from_nxt : offset_of s.nxt.0 ack ≡ offset_of low ack - offset_of low s.nxt.0
          from_nxt = offset_between low s.nxt.0 ack (omega arith)

          pick : Dec (offset_of s.nxt.0 ack < 2 ^ 31) → TooOld s ack
          pick (yes less) = absurd (sent (omega (arith, from_nxt), less))
          pick (no most) =
              let around = offset_around low ack s.una.0 (omega (arith, una_from_low, nxt_from_low)) in (
                omega (arith, around, una_from_low, offset_below low ack),
                omega (arith, around, una_from_low, nxt_from_low, from_nxt),
              )

      pick : Dec (offset_of low s.nxt.0 < offset_of low ack) → ¬ Before s.nxt.0 ack → ¬ TooOld s ack → InAckRange
      pick (yes past) sent young = absurd (young (too_old_if past sent))
      pick (no most) sent young = omega arith
