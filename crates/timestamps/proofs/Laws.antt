-- What document 01 says of timestamps, apart from the definitions. Assumes nothing.
use mathlib.Core.Bool.{Bool, true, false, and-false, not, or-true}
use mathlib.Core.Logic.{◌↔◌, ◌⊎◌, inl, inr}
use mathlib.Core.Path.{◌≡◌, refl, ap, ◌∙◌}
use Prim.Native.Nat.{ℕ, ◌+◌, ◌-◌, ◌%◌, ◌^◌, ◌<◌}
use native.Mathlib.Omega.{arith}
use lib.IntN.{pos}
use lib.Signed.{lt_z}
use borrow.Author.Tests.{lt-ltb, ltb-true}
use Rattle.std.specs.Prelude.{Option, None, Some}
use Rattle.serial.specs.Serial.{is_at_or_before, is_before, moved_by, offset_of, stamp_at}
use Rattle.serial.specs.declared.Stamp.{Stamp}
use Rattle.serial.proofs.Clock.{sample_back}
use Rattle.serial.proofs.Distance.{distance_both_moved, neither_before}
use Rattle.serial.proofs.Offset.{moved_offset, offset_below}
use Rattle.timestamps.specs.declared.Timestamping.{Timestamping}
use Rattle.timestamps.specs.Timestamps.{is_missing, is_old, is_present, is_recorded, opened, outdated, replaces_recent, sample_at, stamp_of, taken, value_before}

-- TSval is compared with TS.Recent by the distance of serial numbers
pub by_distance : (recent : ℕ) (stamp : Stamp) → value_before recent (Some stamp) ≡ is_before stamp.0 recent
unfolding value_before
by_distance recent stamp = refl

-- and not as a plain number: both moved on by n ticks, the answer is the same
pub before_moved : (recent stamp n : ℕ)
    → value_before (moved_by recent n) (Some (record { 0 = moved_by stamp n })) ≡ value_before recent (Some (record { 0 = stamp }))
unfolding value_before
before_moved recent stamp n = ap (lt_z (pos 0)) (distance_both_moved stamp recent n)

-- TS.Recent = TSval (0 if not in force), set at this clock
module _ (offset clock : ℕ) where
  pub opened_in_force : (stamp : Stamp)
      → opened true offset clock (Some stamp) ≡ record { active = true; recent = stamp; since = clock; offset = offset }
  unfolding opened
  opened_in_force stamp = refl

  pub opened_not_in_force : (value : Option Stamp)
      → opened false offset clock value ≡ record { active = false; recent = record { 0 = 0 }; since = clock; offset = offset }
  unfolding opened
  opened_not_in_force value = refl

-- R = (our timestamp - TSecr) mod 2^32, whatever was echoed: the one number below 2^32 that leads from TSecr to our timestamp
pub sample_exactly : (t : Timestamping) (clock echoed : ℕ)
    → (sample_at t clock echoed < 2 ^ 32) × ((echoed + sample_at t clock echoed) % 2 ^ 32 ≡ (clock + t.offset) % 2 ^ 32)
sample_exactly t clock echoed =
    let ours = stamp_at clock t.offset in
    (offset_below echoed ours, omega (arith, moved_offset echoed ours))

-- our timestamp that is echoed n ms later gives n
pub sample_echoed : (t : Timestamping) (clock n : ℕ) → n < 2 ^ 32 → sample_at t (clock + n) (stamp_at clock t.offset) ≡ n
sample_echoed t clock n small = sample_back clock n t.offset small

module _ (t : Timestamping) (clock : ℕ) where
  -- 21: timestamps in force, none here, no RST; in no other case
  pub missing_given : t.active ≡ true → is_missing t None false ≡ true
  unfolding is_missing
  missing_given active = rw active

  pub missing_not : (value : Option Stamp) (rst : Bool) → (t.active ≡ false) ⊎ ((is_present value ≡ true) ⊎ (rst ≡ true)) → is_missing t value rst ≡ false
  unfolding is_missing
  missing_not value rst (inl off) = rw off
  missing_not value rst (inr (inl present)) = rw present (and-false t.active)
  missing_not value rst (inr (inr reset)) = rw (reset, and-false (not (is_present value))) (and-false t.active)

  pub present_not_missing : (stamp : Stamp) (rst : Bool) → is_missing t (Some stamp) rst ≡ false
  present_not_missing stamp rst = missing_not (Some stamp) rst (inr (inl refl))

  -- 22: timestamps in force, no RST, TSval before TS.Recent, TS.Recent not outdated; in no other case
  pub old_given : (value : Option Stamp) → t.active ≡ true → value_before t.recent.0 value ≡ true → outdated t clock ≡ false
      → is_old t clock value false ≡ true
  unfolding is_old
  old_given value active before counts = rw (counts, before, active)

  pub old_not : (value : Option Stamp) (rst : Bool)
      → (t.active ≡ false) ⊎ ((rst ≡ true) ⊎ ((value_before t.recent.0 value ≡ false) ⊎ (outdated t clock ≡ true)))
      → is_old t clock value rst ≡ false
  unfolding is_old
  old_not value rst (inl off) = rw off
  old_not value rst (inr (inl reset)) = rw reset (and-false t.active)
  old_not value rst (inr (inr (inl after))) = rw (after, and-false (not rst)) (and-false t.active)
  old_not value rst (inr (inr (inr late))) =
      rw (late, and-false (value_before t.recent.0 value), and-false (not rst)) (and-false t.active)

  pub absent_not_old : (rst : Bool) → is_old t clock None rst ≡ false
  unfolding value_before
  absent_not_old rst = old_not None rst (inr (inr (inl refl)))

  -- a TSval 2^31 ticks from TS.Recent is not old
  pub half_way_not_old : (stamp : Stamp) (rst : Bool) → offset_of stamp.0 t.recent.0 ≡ 2 ^ 31
      → is_old t clock (Some stamp) rst ≡ false
  half_way_not_old stamp rst apart =
      let after = by_distance t.recent.0 stamp ∙ (neither_before stamp.0 t.recent.0 apart).0 in
      old_not (Some stamp) rst (inr (inr (inl after)))

  -- at exactly 24 days TS.Recent still counts
  pub outdated_exactly : outdated t clock ≡ true ↔ t.since + 2073600000 < clock
  unfolding outdated
  outdated_exactly = (
    λ late. omega (arith, ltb-true 2073600000 (clock - t.since) late),
    λ late. lt-ltb 2073600000 (clock - t.since) (omega arith),
  )

  module _ (acked seq : ℕ) where
    -- TSval is recorded if timestamps are in force, it is not before TS.Recent or that is outdated, and SEQ is at or before Last.ACK.sent; in no
    -- other case
    pub recorded_given : (stamp : Stamp) → t.active ≡ true → (is_before stamp.0 t.recent.0 ≡ false) ⊎ (outdated t clock ≡ true)
        → is_at_or_before seq acked ≡ true → is_recorded t clock acked seq (Some stamp) ≡ true
    unfolding is_recorded replaces_recent
    recorded_given stamp active (inl after) acknowledged = rw (after, active) acknowledged
    recorded_given stamp active (inr late) acknowledged = rw (late, or-true (not (is_before stamp.0 t.recent.0)), active) acknowledged

    pub recorded_not : (stamp : Stamp)
        → (t.active ≡ false) ⊎ (((is_before stamp.0 t.recent.0 ≡ true) × (outdated t clock ≡ false)) ⊎ (is_at_or_before seq acked ≡ false))
        → is_recorded t clock acked seq (Some stamp) ≡ false
    unfolding is_recorded replaces_recent
    recorded_not stamp (inl off) = rw off
    recorded_not stamp (inr (inl old)) = rw (old.0, old.1) (and-false t.active)
    recorded_not stamp (inr (inr past)) = rw (past, and-false (replaces_recent t clock stamp.0)) (and-false t.active)

    pub recorded_none : is_recorded t clock acked seq None ≡ false
    unfolding is_recorded
    recorded_none = refl

    -- then TS.Recent = TSval, set at this clock, and nothing else changes; where it is not recorded, nothing changes
    module _ (value : Option Stamp) where
      pub take_recorded : is_recorded t clock acked seq value ≡ true
          → taken t clock acked seq value ≡ record { active = t.active; recent = stamp_of value; since = clock; offset = t.offset }
      unfolding taken
      take_recorded recorded = rw recorded

      pub take_left : is_recorded t clock acked seq value ≡ false → taken t clock acked seq value ≡ t
      unfolding taken
      take_left left = rw left
