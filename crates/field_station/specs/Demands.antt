-- What the field-station profile demands of both sides' offers and of the peer's MSS (document 02, P13).
use Rattle.std.specs.Prelude.{Bool, true, cond, not, ◌&&◌, ℕ, leb, Option, None, Some, Result, Ok, Err}
use Rattle.std.proofs.Math.Option as maybe
use Rattle.std.proofs.Math.Option.{none, some}
use Rattle.field_station.specs.declared.Lack.{Lack}
use Rattle.offers.specs.declared.Offers.{Offers}

-- timestamps from both sides
abbrev pub timestamps_met : Offers → Offers → Bool
timestamps_met own peer = own.timestamps && peer.timestamps

-- any offered shift at most 7, as it was offered, in force or not
abbrev pub is_small : Option ℕ → Bool
is_small None = true
is_small (Some n) = leb n 7

abbrev pub shifts_met : Offers → Offers → Bool
shifts_met own peer = is_small own.scale && is_small peer.scale

-- the peer's MSS at least 536
abbrev pub mss_met : ℕ → Bool
mss_met mss = leb 536 mss

-- 1, 2 or 3 for the first of them in that order that is not met
unfoldable pub first_lack : Offers → Offers → ℕ → maybe.Option ℕ
first_lack own peer mss =
    cond (not (timestamps_met own peer)) (some 1)
    (cond (not (shifts_met own peer)) (some 2)
    (cond (not (mss_met mss)) (some 3)
    none))

abbrev pub lack_value : Lack → ℕ
lack_value Lack.Timestamps = 1
lack_value Lack.Shift = 2
lack_value Lack.Mss = 3

abbrev pub lack_of : Result Unit Lack → maybe.Option ℕ
lack_of (Ok met) = none
lack_of (Err lack) = some (lack_value lack)
