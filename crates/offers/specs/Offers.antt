-- What both sides offer, and what is then in force (document 01, "Opening", and E9).
use Rattle.std.specs.Prelude.{Bool, false, ◌&&◌, ◌||◌, ℕ, min, ltb, Option, Some, None}
use Rattle.offers.specs.declared.InForce.{InForce}
use Rattle.offers.specs.declared.Offers.{Offers}
use Rattle.offers.specs.declared.Shifts.{Shifts}

abbrev pub is_large : Option ℕ → Bool
is_large None = false
is_large (Some shift) = ltb 14 shift

-- E9: own shift above 14, or first receive window above 65,535
unfoldable pub exceed_limits : Offers → ℕ → Bool
exceed_limits own window = is_large own.scale || ltb 65535 window

-- scaling is in force only if both offered; else both shifts are 0. A peer's shift above 14 counts as 14.
unfoldable pub shifts_in_force : Option ℕ → Option ℕ → Shifts
shifts_in_force None peer = record { receive = 0; send = 0 }
shifts_in_force (Some own) None = record { receive = 0; send = 0 }
shifts_in_force (Some own) (Some peer) = record { receive = own; send = min peer 14 }

-- timestamps and SACK are in force only if both offered
unfoldable pub in_force : Offers → Offers → InForce
in_force own peer = record {
  shifts = shifts_in_force own.scale peer.scale;
  timestamps = own.timestamps && peer.timestamps;
  sack = own.sack && peer.sack;
}
