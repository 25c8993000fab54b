-- E9 exactly; and of own offers within their limits every shift in force is at most 14, and the first window fits the window field.
-- Assumes nothing.
use mathlib.Core.Bool.{true, false, or-eq-true_iff, false≢true, true≢false}
use mathlib.Core.Logic.Or
use mathlib.Core.Logic.Iff
use mathlib.Core.Logic.{◌↔◌, ◌∨₁◌}
use mathlib.Core.Path.{◌≡◌, sym, ◌∙◌}
use Prim.Native.Nat.{ℕ, ◌<◌, ◌≤◌}
use native.Mathlib.Omega.{arith}
use lib.Dec.{ltb}
use borrow.Author.Tests.{lt-ltb, ltb-true}
use Rattle.offers.specs.Offers.{exceed_limits, in_force, is_large, shifts_in_force}
use Rattle.offers.specs.declared.Offers.{Offers}
use Rattle.std.specs.Prelude.{Option, Some, None}

-- a shift above 14 is offered
abbrev pub Above14 : Option ℕ → Type 0
Above14 None = ⊥
Above14 (Some n) = 14 < n

above_exactly : (scale : Option ℕ) → is_large scale ≡ true ↔ Above14 scale
above_exactly None = (false≢true, λ none. absurd none)
above_exactly (Some n) = (ltb-true 14 n, lt-ltb 14 n)

module _ (own : Offers) (window : ℕ) where
  -- E9: own shift above 14, or first receive window above 65,535
  pub exceed_exactly : exceed_limits own window ≡ true ↔ Above14 own.scale ∨₁ (65535 < window)
  unfolding exceed_limits
  exceed_exactly =
      Iff.trans (or-eq-true_iff (is_large own.scale) (ltb 65535 window))
      (Iff.or (above_exactly own.scale) (ltb-true 65535 window, lt-ltb 65535 window))

  within : exceed_limits own window ≡ false → ¬ (Above14 own.scale ∨₁ (65535 < window))
  within e over = true≢false (sym (exceed_exactly.1 over) ∙ e)

most : (own peer : Option ℕ) → ¬ Above14 own → ((shifts_in_force own peer).receive ≤ 14) × ((shifts_in_force own peer).send ≤ 14)
unfolding shifts_in_force
most None peer small = (omega arith, omega arith)
most (Some n) None small = (omega arith, omega arith)
most (Some n) (Some m) small = (omega arith, omega arith)

pub shifts_most : (own peer : Offers) (window : ℕ) → exceed_limits own window ≡ false
    → ((in_force own peer).shifts.receive ≤ 14) × ((in_force own peer).shifts.send ≤ 14)
unfolding in_force
shifts_most own peer window e = most own.scale peer.scale (λ large. within own window e (Or.inl large))

pub window_most : (own : Offers) (window : ℕ) → exceed_limits own window ≡ false → window ≤ 65535
window_most own window e =
    let small : ¬ (65535 < window) = λ over. within own window e (Or.inr over) in
    omega arith
