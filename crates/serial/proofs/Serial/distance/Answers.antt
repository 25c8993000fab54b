-- `difference` gives the number that document 01 names, and there is only one. Assumes nothing.
use Rattle.serial.proofs.Distance.{distance_only, read_back}
use Rattle.serial.proofs.Serial.distance.Goals as goal

pub returns : goal.returns
returns g c =
    rw (read_back c.difference.result c.difference.type_inv, ← c.number.ensures, ← c.number-2.ensures) (distance_only _ _ _ c.difference.ensures)
