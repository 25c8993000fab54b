-- What the operations on fractions do to whole numbers over one denominator. Assumes nothing.
use Prim.Native.Nat.{ℕ, ◌*◌, ◌≤◌, ◌<◌}
use mathlib.Core.Logic.{◌↔◌}
use mathlib.Core.Path.{◌≡◌, sym, ap, ◌∙◌}
use native.Mathlib.Nat.{le_of_mul-le-mul_right, lt_of_mul-lt-mul_right, mul_comm, mul-le-mul_left, mul-lt-mul_of_pos_left, mul-pos}
use native.Mathlib.Omega.{arith}
use Rattle.rto.specs.Fractions.{AtMost, Below, Fraction, Is, combined, divided, times, whole}

pub whole_is : (n d : ℕ) → Is (whole n) (n * d) d
whole_is n d = record { same = omega arith; proper = omega arith }

module _ {a : Fraction} {n d : ℕ} (h : Is a n d) where
  pub times_is : (k : ℕ) → Is (times k a) (k * n) d
  times_is k = record { same = omega (arith, ap (λ (z : ℕ). k * z) h.same); proper = h.proper }

  pub divided_is : (k : ℕ) → 0 < k → Is (divided a k) n (k * d)
  divided_is k pos = record { same = omega (arith, ap (λ (z : ℕ). k * z) h.same); proper = mul-pos pos h.proper }

  -- the same fraction over k times the denominator
  pub widened : (k e : ℕ) → e ≡ k * d → Is a (k * n) e
  widened k e is = record { same = rw is (omega (arith, ap (λ (z : ℕ). k * z) h.same)); proper = h.proper }

  pub at_most_exactly : 0 < d → (k : ℕ) → AtMost a (whole k) ↔ n ≤ k * d
  at_most_exactly pos k = (
    λ le. le_of_mul-le-mul_right {m = n} {n = k * d} {k = a.den} (omega (arith, h.same, mul-le-mul_left d le)) h.proper,
    λ le. le_of_mul-le-mul_right {m = a.num * 1} {n = k * a.den} {k = d} (omega (arith, h.same, mul-le-mul_left a.den le)) pos,
  )

  pub below_exactly : 0 < d → (k : ℕ) → Below (whole k) a ↔ k * d < n
  below_exactly pos k = (
    λ lt. lt_of_mul-lt-mul_right a.den {m = k * d} {n = n} (omega (arith, h.same, mul-lt-mul_of_pos_left lt pos)),
    λ lt. lt_of_mul-lt-mul_right d {m = k * a.den} {n = a.num * 1} (omega (arith, h.same, mul-lt-mul_of_pos_left lt h.proper)),
  )

-- f spreads over a factor, as a sum, a difference, a larger and a smaller do
module _ (f : ℕ → ℕ → ℕ) (spread : (k x y : ℕ) → k * f x y ≡ f (k * x) (k * y)) where
  pub combined_is : {a b : Fraction} {m n d : ℕ} → Is a m d → Is b n d → Is (combined f a b) (f m n) d
  combined_is {a} {b} {m} {n} {d} ha hb =
      let p = a.den in
      let q = b.den in
      let left : d * (a.num * q) ≡ p * q * m = omega (arith, ap (λ (z : ℕ). z * q) ha.same) in
      let right : d * (b.num * p) ≡ p * q * n = omega (arith, ap (λ (z : ℕ). z * p) hb.same) in
      record {
        same = mul_comm _ d ∙ spread d _ _ ∙ (λ i. f (left i) (right i)) ∙ sym (spread (p * q) m n) ∙ mul_comm (p * q) _;
        proper = mul-pos ha.proper hb.proper;
      }
