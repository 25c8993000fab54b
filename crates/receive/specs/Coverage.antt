-- Which sequence numbers have been received: those below RCV.NXT and those in the ranges held. They are absolute, so that they say the
-- same before and after RCV.NXT advances.
use Rattle.std.specs.Prelude.{Bool, ◌||◌, ℕ, ltb}
use Rattle.laws.specs.Lists.{any}
use Rattle.serial.specs.Serial.{offset_of}
use Rattle.serial.specs.declared.Range.{Range}
use Rattle.receive.specs.declared.Receive.{Receive}
use Rattle.receive.specs.Ranges.{ranges_of}

-- the number x is one of the range's
unfoldable pub is_in : ℕ → Range → Bool
is_in x range = ltb (offset_of range.left.0 x) (offset_of range.left.0 range.right.0)

-- it is held
abbrev pub is_held : Receive → ℕ → Bool
is_held r x = any (is_in x) (ranges_of r.held)

-- of the numbers from `base` on, x is below RCV.NXT, or held
abbrev pub is_received : ℕ → Receive → ℕ → Bool
is_received base r x = ltb (offset_of base x) (offset_of base r.nxt.0) || is_held r x
