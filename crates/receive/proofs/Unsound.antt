-- Ranges that are not sound, one for each thing that soundness says of them. Assumes nothing.
use mathlib.Core.List.{[], ◌∷◌}
use mathlib.Core.Logic.{inl, inr}
use native.Mathlib.Omega.{arith}
use Rattle.serial.specs.Serial.{offset_of, range}
use Rattle.laws.specs.Lists.{Each, EachTwo}
use Rattle.laws.specs.Lists.Each.{more}
use Rattle.laws.specs.Lists.EachTwo.{more_two}
use Rattle.receive.specs.Ranges.{left_of, right_of}
use Rattle.receive.specs.Sound.{Apart, Inside, SoundRanges}

-- at RCV.NXT 1000 with a window of 300: adjacent, at RCV.NXT, empty, past the window
pub adjacent_unsound : SoundRanges 1000 300 (range 1110 1120 ∷ range 1100 1110 ∷ []) → ⊥
unfolding left_of right_of offset_of
adjacent_unsound s = pick s.apart
  where
    pick : EachTwo (Apart 1000) (range 1110 1120 ∷ range 1100 1110 ∷ []) → ⊥
    pick (more_two (more (inl h) e) d) = absurd (omega arith)
    pick (more_two (more (inr h) e) d) = absurd (omega arith)

pub at_next_unsound : SoundRanges 1000 300 (range 1000 1010 ∷ []) → ⊥
unfolding left_of right_of offset_of
at_next_unsound s = pick s.inside
  where
    pick : Each (Inside 1000 300) (range 1000 1010 ∷ []) → ⊥
    pick (more i e) = absurd (omega (arith, i.above))

pub empty_unsound : SoundRanges 1000 300 (range 1100 1100 ∷ []) → ⊥
unfolding left_of right_of offset_of
empty_unsound s = pick s.inside
  where
    pick : Each (Inside 1000 300) (range 1100 1100 ∷ []) → ⊥
    pick (more i e) = absurd (omega (arith, i.filled))

pub past_window_unsound : SoundRanges 1000 300 (range 1100 1301 ∷ []) → ⊥
unfolding left_of right_of offset_of
past_window_unsound s = pick s.inside
  where
    pick : Each (Inside 1000 300) (range 1100 1301 ∷ []) → ⊥
    pick (more i e) = absurd (omega (arith, i.within))
