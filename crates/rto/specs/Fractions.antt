-- Fractions that are never rounded, and not brought to lowest terms. That a denominator is above 0 is said by `Is`.
use Rattle.std.specs.Prelude.{ℕ, ◌+◌, ◌-◌, ◌*◌, ◌≤◌, ◌<◌, max, min, ◌≡◌}

pub record Fraction : Type 0 where
  pub num : ℕ
  pub den : ℕ

abbrev pub whole : ℕ → Fraction
whole n = record { num = n; den = 1 }

-- k times a, and a over k
abbrev pub times : ℕ → Fraction → Fraction
times k a = record { num = k * a.num; den = a.den }

abbrev pub divided : Fraction → ℕ → Fraction
divided a k = record { num = a.num; den = k * a.den }

-- a and b brought to one denominator, and f of their numerators
abbrev pub combined : (ℕ → ℕ → ℕ) → Fraction → Fraction → Fraction
combined f a b = record { num = f (a.num * b.den) (b.num * a.den); den = a.den * b.den }

abbrev pub sum : Fraction → Fraction → Fraction
sum = combined ◌+◌

-- |a - b|
abbrev pub between : ℕ → ℕ → ℕ
between x y = (x - y) + (y - x)

abbrev pub gap : Fraction → Fraction → Fraction
gap = combined between

abbrev pub larger : Fraction → Fraction → Fraction
larger = combined max

abbrev pub smaller : Fraction → Fraction → Fraction
smaller = combined min

-- a is at most b, and a is below b
abbrev pub AtMost : Fraction → Fraction → Type 0
AtMost a b = a.num * b.den ≤ b.num * a.den

abbrev pub Below : Fraction → Fraction → Type 0
Below a b = a.num * b.den < b.num * a.den

-- a is the whole number n over d
pub record Is (a : Fraction) (n d : ℕ) : Type 0 where
  pub same : a.num * d ≡ n * a.den
  pub proper : 0 < a.den
