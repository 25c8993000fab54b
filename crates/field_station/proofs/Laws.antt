-- The field-station profile's demands in document 02's words (P13): "timestamps from both sides, any offered shift at most 7, and the peer's MSS
-- at least 536", and which of them is the first that is not met. Assumes nothing.
use mathlib.Core.Bool.{true, not}
use mathlib.Core.Logic.{◌↔◌}
use mathlib.Core.Option as maybe
use mathlib.Core.Option.{none, some}
use mathlib.Core.Path.{◌≡◌, refl, subst}
use Prim.Native.Nat.{ℕ, ◌≤◌}
use borrow.Author.Tests.{not-false, not-true}
use Rattle.std.specs.Prelude.{Option, None, Some, Ok, Err}
use Rattle.laws.proofs.Choices.{either}
use Rattle.laws.proofs.Tests.{at_most, both, fails_exactly}
use Rattle.field_station.specs.declared.Lack.{Lack}
use Rattle.offers.specs.declared.Offers.{Offers}
use Rattle.field_station.specs.Demands.{first_lack, is_small, lack_of, lack_value, mss_met, shifts_met, timestamps_met}

-- any offered shift is at most 7
abbrev pub Small : Option ℕ → Type 0
Small None = Unit {0}
Small (Some n) = n ≤ 7

small_exactly : (scale : Option ℕ) → is_small scale ≡ true ↔ Small scale
small_exactly None = (λ _. tt, λ _. refl)
small_exactly (Some n) = at_most n 7

module _ (own peer : Offers) (mss : ℕ) where
  abbrev pub FromBoth : Type 0
  FromBoth = (own.timestamps ≡ true) × (peer.timestamps ≡ true)

  abbrev pub SmallShifts : Type 0
  SmallShifts = Small own.scale × Small peer.scale

  abbrev pub Meets : Type 0
  Meets = FromBoth × SmallShifts × (536 ≤ mss)

  -- the first of the three that is not met, in this order; none if all are
  pub data FirstUnmet : maybe.Option ℕ → Type 0 where
    no_timestamps : ¬ FromBoth → FirstUnmet (some 1)
    large_shift : FromBoth → ¬ SmallShifts → FirstUnmet (some 2)
    small_mss : FromBoth → SmallShifts → ¬ (536 ≤ mss) → FirstUnmet (some 3)
    all_met : Meets → FirstUnmet none

  from_both : timestamps_met own peer ≡ true ↔ FromBoth
  from_both = both own.timestamps peer.timestamps ((λ t. t), (λ t. t)) ((λ t. t), (λ t. t))

  small_shifts : shifts_met own peer ≡ true ↔ SmallShifts
  small_shifts = both (is_small own.scale) (is_small peer.scale) (small_exactly own.scale) (small_exactly peer.scale)

  large_mss : mss_met mss ≡ true ↔ 536 ≤ mss
  large_mss = at_most 536 mss

  first : FirstUnmet (first_lack own peer mss)
  unfolding first_lack
  first =
      either FirstUnmet (not (timestamps_met own peer)) (some 1) _ (λ t. no_timestamps ((fails_exactly _ from_both).0 (not-true _ t)))
      (λ t. let stamped = from_both.0 (not-false _ t) in
      either FirstUnmet (not (shifts_met own peer)) (some 2) _ (λ t. large_shift stamped ((fails_exactly _ small_shifts).0 (not-true _ t)))
      (λ t. let small = small_shifts.0 (not-false _ t) in
      either FirstUnmet (not (mss_met mss)) (some 3) none (λ t. small_mss stamped small ((fails_exactly _ large_mss).0 (not-true _ t)))
      (λ t. all_met (stamped, small, large_mss.0 (not-false _ t)))))

  given : (o : maybe.Option ℕ) → FirstUnmet o → first_lack own peer mss ≡ o
  unfolding first_lack
  given o (no_timestamps lacks) = rw ((fails_exactly _ from_both).1 lacks)
  given o (large_shift stamped exceeds) = rw (from_both.1 stamped, (fails_exactly _ small_shifts).1 exceeds)
  given o (small_mss stamped small less) = rw (from_both.1 stamped, small_shifts.1 small, (fails_exactly _ large_mss).1 less)
  given o (all_met (stamped, small, large)) = rw (from_both.1 stamped, small_shifts.1 small, large_mss.1 large)

  pub lack_exactly : (o : maybe.Option ℕ) → first_lack own peer mss ≡ o ↔ FirstUnmet o
  lack_exactly o = (λ is. subst FirstUnmet is first, given o)

-- each case holds what it says
pub lacks_named : (lack_value Lack.Timestamps ≡ 1) × (lack_value Lack.Shift ≡ 2) × (lack_value Lack.Mss ≡ 3)
lacks_named = (refl, refl, refl)

pub fitness_holds : (lack : Lack) → (lack_of (Ok tt) ≡ none) × (lack_of (Err lack) ≡ some (lack_value lack))
fitness_holds lack = (refl, refl)
