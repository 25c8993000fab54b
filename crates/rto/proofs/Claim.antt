-- What the definitions of demand 3 come to, in the papers' words and apart from them: of which lists it speaks, and when a timer is on time.
-- Assumes nothing.
use Prim.Native.Nat.{ℕ, ◌+◌, ◌*◌, ◌≤◌, ◌<◌}
use mathlib.Core.List.{List, ◌∷◌, ◌++◌}
use mathlib.Core.Logic.Iff
use mathlib.Core.Logic.{◌↔◌, ◌⊎◌, inl, inr}
use mathlib.Core.Path.{refl, sym, ◌∙◌}
use native.Mathlib.Nat.{mul-add}
use native.Mathlib.Omega.{arith}
use Rattle.laws.proofs.Tests.{fails_exactly}
use Rattle.rto.specs.Timer.{is_accepted}
use Rattle.rto.specs.Calls.{Call, sample}
use Rattle.rto.specs.Fractions.{Fraction, Is}
use Rattle.rto.specs.Exact.{exact_value, set, unset}
use Rattle.rto.specs.Demand.{NoExpirySinceSample, OnTime, RefusedSamples}
use Rattle.rto.proofs.Fractions.{at_most_exactly, below_exactly, combined_is, divided_is, whole_is, widened}
use Rattle.rto.proofs.Refusal.{accepted_exactly, tests_agree}

-- any list in which refused samples alone come after a sample that is not refused
pub stands_any : (before after : List Call) (r n : ℕ) → r ≤ 600000 → 1 ≤ n → n ≤ 16 → RefusedSamples after
    → NoExpirySinceSample (before ++ (sample r n ∷ after))
stands_any before after r n short least most refused = record {
  before = before;
  rtt = r;
  expected = n;
  after = after;
  split = refl;
  not_refused = sym (tests_agree r n) ∙ (accepted_exactly r n).1 (short, (least, most));
  last = refused;
}

-- a sample above 600,000 is refused, and one with an N outside 1 to 16
pub refused_any : (r n : ℕ) (after : List Call) → (600000 < r) ⊎ ((n < 1) ⊎ (16 < n)) → RefusedSamples after
    → RefusedSamples (sample r n ∷ after)
refused_any r n after outside refused =
    (sym (tests_agree r n) ∙ (fails_exactly (is_accepted r n) (accepted_exactly r n)).1 (not_within outside), refused)
  where
    not_within : (600000 < r) ⊎ ((n < 1) ⊎ (16 < n)) → (r ≤ 600000) × ((1 ≤ n) × (n ≤ 16)) → ⊥
    not_within (inl long) within = omega arith
    not_within (inr (inl few)) within = omega arith
    not_within (inr (inr many)) within = omega arith

-- on time is no earlier than an exact value of x/d ms, and later than it by less than 1650/256 ms
pub on_time_exactly : (s v : Fraction) {x d : ℕ} → Is (exact_value s v) x d → 0 < d → (ms : ℕ)
    → OnTime ms (set s v) ↔ (x ≤ ms * d) × (ms * (256 * d) < 256 * x + 1650 * d)
on_time_exactly s v {d = d} is pos ms =
    let late = combined_is ◌+◌ mul-add (widened is 256 (256 * d) refl) (divided_is (whole_is 1650 d) 256 (omega arith)) in
    Iff.and (at_most_exactly is pos ms) (below_exactly late (omega arith) ms)

-- and of no timer without an exact value
pub never_unset : (ms : ℕ) → OnTime ms unset → ⊥
never_unset ms h = h
