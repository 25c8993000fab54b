-- The timestamps of a connection: at its opening, missing or old ones, what becomes TS.Recent, and the sample R (document 01, "Opening",
-- "Verdicts, in this order" and "What taking does").
use Rattle.std.specs.Prelude.{Bool, false, cond, not, ◌&&◌, ◌||◌, ℕ, ◌-◌, ltb, Option, None, Some, is_some, unwrap_or}
use Rattle.serial.specs.Serial.{is_at_or_before, is_before, round_trip, stamp_at}
use Rattle.serial.specs.declared.Stamp.{Stamp}
use Rattle.timestamps.specs.declared.Timestamping.{Timestamping}

-- whether the segment has timestamps, and its TSval, 0 where it has none
abbrev pub is_present : Option Stamp → Bool
is_present value = is_some value

abbrev pub stamp_of : Option Stamp → Stamp
stamp_of value = unwrap_or value (record { 0 = 0 })

-- TS.Recent = TSval (0 if not in force), set at this clock
unfoldable pub opened : Bool → ℕ → ℕ → Option Stamp → Timestamping
opened active offset clock value = record {
  active = active;
  recent = cond active (stamp_of value) (record { 0 = 0 });
  since = clock;
  offset = offset;
}

-- document 01's "outdated": more than 2,073,600,000 ms (24 days) since TS.Recent was set
unfoldable pub outdated : Timestamping → ℕ → Bool
outdated t clock = ltb 2073600000 (clock - t.since)

-- TSval before TS.Recent
unfoldable pub value_before : ℕ → Option Stamp → Bool
value_before recent None = false
value_before recent (Some stamp) = is_before stamp.0 recent

-- verdict 21: timestamps in force, none here, no RST
unfoldable pub is_missing : Timestamping → Option Stamp → Bool → Bool
is_missing t value rst = t.active && (not (is_present value) && not rst)

-- verdict 22: timestamps in force, no RST, TSval before TS.Recent, TS.Recent not outdated
unfoldable pub is_old : Timestamping → ℕ → Option Stamp → Bool → Bool
is_old t clock value rst = t.active && (not rst && (value_before t.recent.0 value && not (outdated t clock)))

-- TSval is not before TS.Recent or it is outdated
unfoldable pub replaces_recent : Timestamping → ℕ → ℕ → Bool
replaces_recent t clock value = not (is_before value t.recent.0) || outdated t clock

-- timestamps in force, TSval may replace TS.Recent, and SEQ is at or before Last.ACK.sent
unfoldable pub is_recorded : Timestamping → ℕ → ℕ → ℕ → Option Stamp → Bool
is_recorded t clock acked seq None = false
is_recorded t clock acked seq (Some stamp) = t.active && (replaces_recent t clock stamp.0 && is_at_or_before seq acked)

-- then TS.Recent = TSval, set at this clock
abbrev pub with_recent : Timestamping → ℕ → Option Stamp → Timestamping
with_recent t clock value = record { active = t.active; recent = stamp_of value; since = clock; offset = t.offset }

unfoldable pub taken : Timestamping → ℕ → ℕ → ℕ → Option Stamp → Timestamping
taken t clock acked seq value = cond (is_recorded t clock acked seq value) (with_recent t clock value) t

-- the sample R = (our timestamp - TSecr) mod 2^32
abbrev pub sample_at : Timestamping → ℕ → ℕ → ℕ
sample_at t clock echoed = round_trip (stamp_at clock t.offset) echoed
