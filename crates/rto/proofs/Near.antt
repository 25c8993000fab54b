-- Rounding leads S and V away from the exact ones by less than an amount that the weights fix, however many samples there are, and a
-- margin covers it. Assumes nothing.
use Prim.Native.Nat.{ℕ, suc, ◌+◌, ◌-◌, ◌*◌, ◌≤◌, ◌<◌, min, max}
use mathlib.Core.Path.{◌≡◌, ap}
use native.Mathlib.Nat.{mul-le-mul_left}
use native.Mathlib.Omega.{arith}
use Rattle.rto.specs.Timer.{apart, limited}
use Rattle.rto.specs.Fractions.{between}
use Rattle.rto.proofs.Exact.{value_over}
use Rattle.rto.proofs.Rounding.{Mean, mean_low, mean_high, mul_between, mul_max, mul_min}

-- The rounded S and V, a and b, beside the exact ones, s/d and v/d: 0 ≤ S - a < e and -e < V - b < f.
pub record Near (e f d s v a b : ℕ) : Type 0 where
  pub s_low : d * a ≤ s
  pub s_high : s < d * (a + e)
  pub v_low : d * b < v + d * e
  pub v_high : v < d * (b + f)

-- A later sample x keeps them near, where its weights are 1/c for S and 1/u for V.
module _ (c u e f : ℕ) (twice : c ≡ 2 * u) (two : 2 ≤ u) (fits_s : c ≤ suc e) (fits_v : e + u ≤ suc f) where
  pub near_next :
      (d s v a b x a' b' : ℕ) → Near e f d s v a b → Mean c a x a' → Mean u b (apart a x) b' →
      Near e f (c * d) ((c - 1) * s + x * d) (2 * ((u - 1) * v + between s (x * d))) a' b'
  near_next d s v a b x a' b' h mean_s mean_v =
      let l : ℕ = d * e - 1 in
      let one_more : suc l ≡ d * e = omega arith in
      let low : d * apart a x ≤ between s (x * d) + l = omega (arith, mul_between d a x) in
      let high : between s (x * d) ≤ d * (apart a x + e) = omega (arith, mul_between d a x) in
      let v_mean_low = mean_low u (omega arith) d b v (apart a x) (between s (x * d)) b' mean_v l (omega arith) low in
      let v_mean_high = mean_high u (omega arith) d b v (apart a x) (between s (x * d)) b' mean_v e f two fits_v h.v_high high in
      record {
        s_low = omega (arith, mean_low c (omega arith) d a s x (x * d) a' mean_s 0 (omega arith) (omega arith));
        s_high = mean_high c (omega arith) d a s x (x * d) a' mean_s 0 e (omega arith) (omega arith) h.s_high (omega arith);
        v_low = rw twice (omega (arith, v_mean_low, ap (λ (z : ℕ). u * z) one_more));
        v_high = rw twice (omega (arith, v_mean_high));
      }

-- The limits keep an order and a distance.
module _ (c x q : ℕ) where
  limited_low : x ≤ c * q → min (60000 * c) (max (1000 * c) x) ≤ c * limited q
  limited_low h = rw (mul_min, mul_max) (omega arith)

  limited_high : (k : ℕ) → 0 < k → c * q < x + k → c * limited q < min (60000 * c) (max (1000 * c) x) + k
  limited_high k pos h = rw (mul_min, mul_max) (omega arith)

-- Near S and V give a timer that is on time, if the margin is e + 4f and m is rounded up.
module _
    (e f d s v a b m : ℕ) (h : Near e f d s v a b) (up : a + max 256 (4 * b) + (e + 4 * f) ≤ 256 * m)
    (down : 256 * m ≤ a + max 256 (4 * b) + (e + 4 * f) + 255)
  where
    pub near_on_time :
        (value_over d s v ≤ limited m * (256 * d)) × (limited m * (256 * d) < value_over d s v + (5 * e + 4 * f + 255) * d)
    near_on_time =
        let x : ℕ = s + max (256 * d) (4 * v) in
        let spread = mul_max d 256 (4 * b) in
        let above : x ≤ 256 * d * m = omega (arith, mul-le-mul_left d up, spread) in
        let close : 256 * d * m < x + (5 * e + 4 * f + 255) * d = omega (arith, mul-le-mul_left d down, spread) in (
          omega (arith, limited_low (256 * d) x m above),
          omega (arith, limited_high (256 * d) x m ((5 * e + 4 * f + 255) * d) (omega arith) close),
        )
