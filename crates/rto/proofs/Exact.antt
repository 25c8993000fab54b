-- The exact S, V and value as whole numbers over one denominator; after n samples that are not refused, it is 8^(n-1) times every later N.
-- Assumes nothing.
use Prim.Native.Nat.{ℕ, ◌+◌, ◌-◌, ◌*◌, ◌^◌, ◌≤◌, ◌<◌, min, max}
use mathlib.Core.Bool.{Bool, true, false}
use mathlib.Core.List.{List, [], ◌∷◌, ◌++◌, append_assoc, append-nil}
use mathlib.Core.Path.{◌≡◌, refl, ap, subst, ◌∙◌}
use native.Mathlib.Nat.{mul-add, pow-succ'}
use native.Mathlib.Omega.{arith}
use lib.ListN.{length}
use Rattle.rto.specs.Calls.{Call, sample, expiry}
use Rattle.rto.specs.Fractions.{Fraction, Is, between, divided, sum, times}
use Rattle.rto.specs.Exact.{AfterSamples, Exact, SetOver, WholeOver, unset, set, accepted, exact_called, exact_rttvar, exact_run, exact_sampled, exact_srtt, exact_value, expected_of, product, within_limits}
use Rattle.rto.proofs.Fractions.{combined_is, divided_is, times_is, whole_is, widened}
use Rattle.rto.proofs.Refusal.{accepted_exactly, tests_agree}
use Rattle.rto.proofs.Rounding.{mul_between, mul_max, mul_min}

-- the exact value's numerator over 256d
abbrev pub value_over : ℕ → ℕ → ℕ → ℕ
value_over d m n = min (60000 * (256 * d)) (max (1000 * (256 * d)) (m + max (256 * d) (4 * n)))

-- a mean in which b weighs 1/c and a the rest
weighted_is :
    {a b : Fraction} {m n d : ℕ} → Is a m d → Is b n d → (c : ℕ) → 0 < c →
    Is (divided (sum (times (c - 1) a) b) c) ((c - 1) * m + n) (c * d)
weighted_is a_is b_is c pos = divided_is (combined_is ◌+◌ mul-add (times_is a_is (c - 1)) b_is) c pos

module _ {s v : Fraction} {m n d : ℕ} (s_is : Is s m d) (v_is : Is v n d) where
  module _ (r k : ℕ) (least : 1 ≤ k) where
    pub srtt_is : Is (exact_srtt s r k) ((8 * k - 1) * m + 256 * r * d) (8 * k * d)
    srtt_is = weighted_is s_is (whole_is (256 * r) d) (8 * k) (omega arith)

    pub rttvar_is : Is (exact_rttvar s v r k) (2 * ((4 * k - 1) * n + between m (256 * r * d))) (8 * k * d)
    rttvar_is =
        let gap_is = combined_is between mul_between s_is (whole_is (256 * r) d) in
        widened (weighted_is v_is gap_is (4 * k) (omega arith)) 2 (8 * k * d) (omega arith)

  pub value_is : Is (exact_value s v) (value_over d m n) (256 * d)
  value_is =
      let spread = combined_is max mul_max (whole_is 256 d) (times_is v_is 4) in
      let plain = divided_is (combined_is ◌+◌ mul-add s_is spread) 256 (omega arith) in
      combined_is min mul_min (whole_is 60000 (256 * d)) (combined_is max mul_max (whole_is 1000 (256 * d)) plain)

whole_over : {a : Fraction} {n d : ℕ} → Is a n d → WholeOver d a
whole_over {n} h = record { number = n; is = h }

-- a later sample makes the denominator 8N times what it was
denominator_next : (later : List ℕ) (n : ℕ) →
    8 ^ length (later ++ (n ∷ [])) * product (later ++ (n ∷ [])) ≡ 8 * n * (8 ^ length later * product later)
denominator_next [] n = omega arith
denominator_next (k ∷ ks) n =
    rw (pow-succ' 8 (length (ks ++ (n ∷ []))), pow-succ' 8 (length ks))
    (omega (arith, ap (λ (z : ℕ). 8 * k * z) (denominator_next ks n)))

sampled_over : (ns : List ℕ) (e : Exact) (r n : ℕ) → 1 ≤ n → AfterSamples ns e → AfterSamples (ns ++ (n ∷ [])) (exact_sampled e r n)
sampled_over [] unset r n least h = (whole_over (whole_is (256 * r) 1), whole_over (whole_is (128 * r) 1))
sampled_over [] (set s v) r n least h = absurd h
sampled_over (first ∷ later) unset r n least h = absurd h
sampled_over (first ∷ later) (set s v) r n least h =
    let s_is = h.0.is in
    let v_is = h.1.is in
    rw (denominator_next later n) (whole_over (srtt_is s_is v_is r n least), whole_over (rttvar_is s_is v_is r n least))

called_over : (ns : List ℕ) (e : Exact) (c : Call) → AfterSamples ns e → AfterSamples (ns ++ expected_of c) (exact_called e c)
called_over ns e (sample r n) h = pick (within_limits r n) refl
  where
    pick : (b : Bool) → within_limits r n ≡ b → AfterSamples (ns ++ expected_of (sample r n)) (exact_called e (sample r n))
    pick true accepted =
        rw accepted (sampled_over ns e r n ((accepted_exactly r n).0 (tests_agree r n ∙ accepted)).1.0 h)
    pick false refused = rw (refused, append-nil ns) h
called_over ns e expiry h = rw (append-nil ns) h

run_over : (cs : List Call) (ns : List ℕ) (e : Exact) → AfterSamples ns e → AfterSamples (ns ++ accepted cs) (exact_run e cs)
run_over [] ns e h = rw (append-nil ns) h
run_over (c ∷ cs) ns e h = rw (← append_assoc) (run_over cs (ns ++ expected_of c) (exact_called e c) (called_over ns e c h))

pub after_samples : (calls : List Call) → AfterSamples (accepted calls) (exact_run unset calls)
after_samples calls = run_over calls [] unset tt

-- the same of three samples, said without a list: neither the first N is in the denominator nor that of a refused sample
pub after_three : (r₀ n₀ r₁ n₁ r₂ n₂ r n : ℕ) → within_limits r₀ n₀ ≡ true → within_limits r₁ n₁ ≡ true → within_limits r₂ n₂ ≡ true
    → within_limits r n ≡ false
    → SetOver (8 ^ 2 * (n₁ * n₂)) (exact_run unset (sample r₀ n₀ ∷ sample r n ∷ sample r₁ n₁ ∷ expiry ∷ sample r₂ n₂ ∷ []))
after_three r₀ n₀ r₁ n₁ r₂ n₂ r n first second third refused =
    let calls = sample r₀ n₀ ∷ sample r n ∷ sample r₁ n₁ ∷ expiry ∷ sample r₂ n₂ ∷ [] in
    let ns : accepted calls ≡ n₀ ∷ n₁ ∷ n₂ ∷ [] = rw (first, second, third, refused) refl in
    let d : 8 ^ 2 * (n₁ * (n₂ * 1)) ≡ 8 ^ 2 * (n₁ * n₂) = omega arith in
    subst (λ k. SetOver k (exact_run unset calls)) d (subst (λ l. AfterSamples l (exact_run unset calls)) ns (after_samples calls))
