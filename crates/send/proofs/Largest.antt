-- The largest SND.WND (document 02, P5): raised with each window update and never lowered, and what it can be. Assumes nothing.
use mathlib.Core.Path.{◌≡◌}
use Prim.Native.Nat.{ℕ, max, ◌*◌, ◌^◌, ◌≤◌}
use native.Mathlib.Nat.{mul-le-mul_left, mul-le-mul_right}
use native.Mathlib.Omega.{arith}
use lib.Pow.{pow_mono}
use Rattle.laws.proofs.Choices.{either}
use Rattle.send.specs.Send.{Answer, acknowledged, exceeds_window, sent, taken, updates_window, windowed}
use Rattle.send.specs.Sound.{Sound}
use Rattle.send.specs.declared.AckFields.{AckFields}
use Rattle.send.specs.declared.Send.{Send}

-- from s to t: the larger of the one before and the window now
abbrev pub Raises : Send → Send → Type 0
Raises s t = t.largest ≡ max s.largest t.window

module _ (s : Send) (sound : Sound s) where
  pub same_raises : Raises s s
  same_raises = omega (arith, sound.window_most)

  pub taken_raises : (fields : AckFields) → Raises s (taken s fields)
  unfolding taken windowed acknowledged
  taken_raises fields =
      let next = acknowledged s fields.ack in
      either (Raises s) (updates_window s fields) (windowed next fields) next (λ _. omega arith) (λ _. omega (arith, sound.window_most))

  pub sent_raises : (n : ℕ) → Raises s (sent s n).send
  unfolding sent
  sent_raises n = either (λ (a : Answer). Raises s a.send) (exceeds_window s n) _ _ (λ _. same_raises) (λ _. same_raises)

-- with window fields of 16 bits it is at most 65,535 x 2^14
abbrev pub Most : Send → Type 0
Most s = s.largest ≤ 65535 * 2 ^ 14

pub taken_most : (s : Send) → Sound s → (fields : AckFields) → fields.window ≤ 65535 → Most s → Most (taken s fields)
unfolding taken windowed acknowledged
taken_most s sound fields narrow most =
    let scaled = mul-le-mul_right (2 ^ s.shift) narrow in
    let shifted = mul-le-mul_left 65535 (pow_mono {i = s.shift} {j = 14} sound.shift_most) in
    either Most (updates_window s fields) _ _ (λ _. omega (arith, most, scaled, shifted)) (λ _. most)

pub sent_most : (s : Send) (n : ℕ) → Most s → Most (sent s n).send
unfolding sent
sent_most s n most = either (λ (a : Answer). Most a.send) (exceeds_window s n) _ _ (λ _. most) (λ _. most)
