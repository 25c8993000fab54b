-- A weighted mean that is rounded down, beside the same mean in fractions, for any weight 1/c. The whole numbers are w, x and q, the
-- fractions p/d and y/d. Assumes nothing.
use Prim.Native.Nat.{ℕ, suc, ◌+◌, ◌-◌, ◌*◌, ◌/◌, ◌≤◌, ◌<◌, min, max}
use mathlib.Core.Path.{◌≡◌, ap}
use native.Mathlib.Nat.{mul-le-mul_left, mul-sub, div-lt_iff_lt-mul, div-mul-le_self, lt-div-mul-add}
use native.Mathlib.Omega.{arith}
use Rattle.rto.specs.Timer.{mean}
use Rattle.rto.specs.Fractions.{between}

-- multiplication over a larger, a smaller and a distance
pub mul_max : (d a b : ℕ) → d * max a b ≡ max (d * a) (d * b)
mul_max d a b =
    let e : max a b ≡ a + (b - a) = omega arith in
    omega (arith, ap (λ (z : ℕ). d * z) e, mul-sub d b a)

pub mul_min : (d a b : ℕ) → d * min a b ≡ min (d * a) (d * b)
mul_min d a b =
    let e : min a b ≡ a - (a - b) = omega arith in
    omega (arith, ap (λ (z : ℕ). d * z) e, mul-sub d a (a - b), mul-sub d a b)

pub mul_between : (d a b : ℕ) → d * between a b ≡ between (d * a) (d * b)
mul_between d a b = omega (arith, mul-sub d a b, mul-sub d b a)

-- q is floor(x/c)
pub record Floor (x c q : ℕ) : Type 0 where
  pub low : c * q ≤ x
  pub high : x < c * q + c

-- q is the mean of w and x, in which x weighs 1/c, rounded down
abbrev pub Mean : ℕ → ℕ → ℕ → ℕ → Type 0
Mean c w x q = Floor ((c - 1) * w + x) c q

module _ (c : ℕ) (pos : 0 < c) where
  one_more : c ≡ suc (c - 1)
  one_more = omega arith

  pub floor_is : (x : ℕ) → Floor x c (x / c)
  floor_is x = record { low = omega (arith, div-mul-le_self x c); high = omega (arith, lt-div-mul-add {a = x} pos) }

  pub mean_is : (w x : ℕ) → Mean c w x (mean c w x)
  mean_is w x = floor_is ((c - 1) * w + x)

  -- A mean is at most m where both values are.
  pub mean_most : (w x m : ℕ) → w ≤ m → x ≤ m → mean c w x ≤ m
  mean_most w x m hw hx =
      let sum : (c - 1) * w + x < suc m * c = omega (arith, mul-le-mul_left (c - 1) hw, ap (λ (z : ℕ). z * m) one_more) in
      let below : mean c w x < suc m = (div-lt_iff_lt-mul pos).1 sum in
      omega arith

  module _ (d w p x y q : ℕ) (rounded : Mean c w x q) where
    -- Where w and x are above the exact values by at most l/d, so is q.
    pub mean_low : (l : ℕ) → d * w ≤ p + l → d * x ≤ y + l → (c * d) * q ≤ ((c - 1) * p + y) + c * l
    mean_low l hp hy =
        omega (arith, mul-le-mul_left d rounded.low, mul-le-mul_left (c - 1) hp, ap (λ (z : ℕ). z * l) one_more)

    -- Where w is below the exact value by less than h, and x by at most h - (c - 1), q is below it by less than h.
    pub mean_high :
        (b h : ℕ) → 1 < c → b + c ≤ suc h → p < d * (w + h) → y ≤ d * (x + b) →
        (c - 1) * p + y < (c * d) * (q + h)
    mean_high b h more fits hp hy =
        omega (
          arith,
          mul-le-mul_left d rounded.high,
          mul-le-mul_left (c - 1) hp,
          mul-le-mul_left d fits,
          ap (λ (z : ℕ). z * d) one_more,
          ap (λ (z : ℕ). z * (d * h)) one_more,
        )
