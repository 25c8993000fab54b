-- The timer's value from S and V (document 01, "The timer" and "The gateway's side"). Assumes nothing.
use Prim.Native.Nat.{ℕ, suc, ◌+◌, ◌-◌, ◌*◌, ◌/◌, ◌≤◌, ◌<◌, max, min}
use mathlib.Core.Bool.{and-false, cond, ◌&&◌}
use mathlib.Core.Logic.{◌⊎◌, inl, inr}
use mathlib.Core.Path.{◌≡◌, ◌∙◌}
use native.Mathlib.Decide.{dec_le}
use native.Mathlib.Nat.{div-lt_iff_lt-mul, le_antisymm}
use native.Mathlib.Omega.{arith}
use lib.Dec.{leb}
use borrow.Author.Tests.{le-leb, lt-leb}
use Rattle.rto.specs.Timer.{milliseconds_of, rounded_up, timeout_of}
use Rattle.rto.proofs.Rounding.{floor_is}

-- m is the least whole number not below x/c
pub record LeastNotBelow (c x m : ℕ) : Type 0 where
  pub not_below : x ≤ c * m
  pub least : (k : ℕ) → x ≤ c * k → m ≤ k

module _ (c x : ℕ) (pos : 0 < c) where
  pub rounded_up_least : LeastNotBelow c x (rounded_up x c)
  rounded_up_least =
      let sum : ℕ = x + (c - 1) in
      record {
        not_below = omega (arith, (floor_is c pos sum).high);
        least = λ k h. let below : sum / c < suc k = (div-lt_iff_lt-mul pos).1 (omega arith) in omega arith;
      }

  -- and it is the only one
  pub rounded_up_only : (m : ℕ) → LeastNotBelow c x m → rounded_up x c ≡ m
  rounded_up_only m h =
      let up = rounded_up_least in
      le_antisymm (up.least m h.not_below) (h.least (rounded_up x c) up.not_below)

module _ (s v : ℕ) where
  -- the least whole ms not below (S + max(256, 4V) + 887)/256, then raised to 1,000 or cut to 60,000
  pub value_least : (m : ℕ) → LeastNotBelow 256 (s + max 256 (4 * v) + 887) m → timeout_of s v ≡ min 60000 (max 1000 m)
  value_least m h = omega (arith, rounded_up_only 256 (s + max 256 (4 * v) + 887) (omega arith) m h)

  -- the gateway's side: S or V above 153,600,000 gives 0
  pub milliseconds_within : s ≤ 153600000 → v ≤ 153600000 → milliseconds_of s v ≡ timeout_of s v
  milliseconds_within hs hv = λ i. cond (le-leb s 153600000 hs i && le-leb v 153600000 hv i) (timeout_of s v) 0

  pub milliseconds_above : (153600000 < s) ⊎ (153600000 < v) → milliseconds_of s v ≡ 0
  milliseconds_above (inl h) = λ i. cond (lt-leb s 153600000 h i && leb v 153600000) (timeout_of s v) 0
  milliseconds_above (inr h) =
      (λ i. cond (leb s 153600000 && lt-leb v 153600000 h i) (timeout_of s v) 0)
      ∙ (λ i. cond (and-false (leb s 153600000) i) (timeout_of s v) 0)

  -- and nothing else does
  pub milliseconds_zero : milliseconds_of s v ≡ 0 → (153600000 < s) ⊎ (153600000 < v)
  milliseconds_zero e = pick (dec_le s 153600000) (dec_le v 153600000)
    where
      pick : Dec (s ≤ 153600000) → Dec (v ≤ 153600000) → (153600000 < s) ⊎ (153600000 < v)
      pick (no large) d = inl (omega arith)
      pick (yes hs) (no large) = inr (omega arith)
      pick (yes hs) (yes hv) = absurd (omega (arith, milliseconds_within hs hv))
