-- The window field of a sound receive side is its window in units of 2^shift, rounded down, and needs no cut. Assumes nothing.
use mathlib.Core.Path.{◌≡◌}
use Prim.Native.Nat.{ℕ, ◌+◌, ◌*◌, ◌/◌, ◌^◌, ◌≤◌, ◌<◌}
use native.Mathlib.Nat.{div-add-mod', div-lt_iff_lt-mul, mod-lt}
use native.Mathlib.Omega.{arith}
use lib.Pow.{pow_pos}
use Rattle.receive.specs.Sound.{Sound}
use Rattle.receive.specs.declared.Receive.{Receive}
use Rattle.acknowledgment.specs.Acknowledgment.{window_field}

pub window_most : (r : Receive) → window_field r ≤ 65535
unfolding window_field
window_most r = omega arith

module _ (r : Receive) (sound : Sound r) where
  abbrev unit : ℕ
  unit = 2 ^ r.shift

  field_is : window_field r ≡ r.window / unit
  unfolding window_field
  field_is =
      let below : r.window / unit < 65536 = (div-lt_iff_lt-mul (pow_pos r.shift)).1 (omega (arith, sound.window_most, pow_pos r.shift)) in
      omega arith

  -- the right edge that the peer reads is not past the window's, and less than 2^shift octets before it
  pub window_written : (window_field r * 2 ^ r.shift ≤ r.window) × (r.window < window_field r * 2 ^ r.shift + 2 ^ r.shift)
  window_written =
      let whole = div-add-mod' r.window unit in
      let left = mod-lt r.window (pow_pos r.shift) in
      rw field_is (omega (arith, whole), omega (arith, whole, left))
