-- `wrapping_sub` gives a number that leads from the one to the other, and there is only one. Assumes nothing.
use Rattle.std.proofs.Common.{arith}
use Rattle.serial.proofs.Offset.{offset_only}
use Rattle.serial.proofs.Serial.offset.Goals as goal

pub returns : goal.returns
returns g c = rw (← c.number.ensures, ← c.number-2.ensures) (offset_only _ _ _ (omega arith) (omega arith))
