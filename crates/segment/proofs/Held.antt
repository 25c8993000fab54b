-- Each case that reading answers with holds what belongs to it as it is: the fields, the place of the kind octet at fault, the number of
-- steps. Assumes nothing.
use mathlib.Core.Path.{◌≡◌, refl}
use Prim.Native.Nat.{ℕ}
use Rattle.std.specs.Prelude.{Ok, Err}
use Rattle.segment.specs.Reading.{read_as, refused, refused_at, shown}
use Rattle.segment.specs.declared.Refusal.{Refusal}
use Rattle.segment.specs.declared.Segment.{Segment}

module _ (steps : ℕ) where
  pub segment_holds : (w : Segment) → shown (record { outcome = Ok w; steps = steps }) ≡ record { answer = read_as w; steps = steps }
  segment_holds w = refl

  pub too_short_holds : shown (record { outcome = Err Refusal.TooShort; steps = steps }) ≡ record { answer = refused 1; steps = steps }
  too_short_holds = refl

  pub too_long_holds : shown (record { outcome = Err Refusal.TooLong; steps = steps }) ≡ record { answer = refused 2; steps = steps }
  too_long_holds = refl

  pub bad_offset_holds : shown (record { outcome = Err Refusal.BadDataOffset; steps = steps }) ≡ record { answer = refused 3; steps = steps }
  bad_offset_holds = refl

  module _ (place : ℕ) where
    pub broken_holds : shown (record { outcome = Err (Refusal.BrokenOption place); steps = steps })
        ≡ record { answer = refused_at (record { number = 4; place = place }); steps = steps }
    broken_holds = refl

    pub wrong_length_holds : shown (record { outcome = Err (Refusal.WrongOptionLength place); steps = steps })
        ≡ record { answer = refused_at (record { number = 5; place = place }); steps = steps }
    wrong_length_holds = refl

    pub repeated_holds : shown (record { outcome = Err (Refusal.RepeatedOption place); steps = steps })
        ≡ record { answer = refused_at (record { number = 6; place = place }); steps = steps }
    repeated_holds = refl
