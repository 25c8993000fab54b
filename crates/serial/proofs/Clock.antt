-- Our timestamps go with the caller's clock, however high it stands, and what comes back of one is the time since then. Assumes nothing.
use Rattle.std.proofs.Common.{◌≡◌, ℕ, ◌+◌, ◌^◌, ◌<◌, sym, arith}
use Rattle.serial.specs.Serial.{moved_by, round_trip, stamp_at}
use Rattle.serial.proofs.Offset.{offset_only}

-- at clock 0 it is the connection's offset, and n ms later it is n further, modulo 2^32
pub stamp_first : (offset : ℕ) → offset < 2 ^ 32 → stamp_at 0 offset ≡ offset
stamp_first offset small = omega arith

pub stamp_later : (clock n offset : ℕ) → stamp_at (clock + n) offset ≡ moved_by (stamp_at clock offset) n
stamp_later clock n offset = omega arith

-- a timestamp that is echoed n ms after it was sent gives the sample n
pub sample_back : (clock n offset : ℕ) → n < 2 ^ 32 → round_trip (stamp_at (clock + n) offset) (stamp_at clock offset) ≡ n
sample_back clock n offset small =
    sym (offset_only (stamp_at clock offset) (stamp_at (clock + n) offset) n small (omega arith))
