-- What the contracts of private functions cite. No promise of the crate rests on these.
use Rattle.std.specs.Prelude.{cond, List, ◌∷◌, ℕ, ◌-◌, ltb, length}
use Rattle.serial.specs.Serial.{moved_by}
use Rattle.serial.specs.declared.Range.{Range}
use Rattle.receive.specs.declared.Receive.{Receive}

-- a range put first, where a slot is left for it
unfoldable pub with_first : Range → List Range → List Range
with_first r ranges = cond (ltb (length ranges) 8) (r ∷ ranges) ranges

-- RCV.NXT moved on, with the right window edge where it was
unfoldable pub moved_on : Receive → ℕ → Receive
moved_on r octets = record {
  nxt = record { 0 = moved_by r.nxt.0 octets };
  window = r.window - octets;
  shift = r.shift;
  acked = r.acked;
  held = r.held;
}
