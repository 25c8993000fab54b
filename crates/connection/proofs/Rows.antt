-- The rows of the table as document 01 lists them, with document 02's 31 directly after 29: numbers and answers in this order, and each
-- condition by its number. Assumes nothing.
use mathlib.Core.Bool.{Bool, true, false, not, ◌&&◌, and-false}
use mathlib.Core.List.{List, [], ◌∷◌, map}
use mathlib.Core.Logic.Iff
use mathlib.Core.Logic.{◌↔◌}
use mathlib.Core.Path.{◌≡◌, refl}
use Prim.Native.Nat.{ℕ, ◌^◌, ◌<◌, ◌≤◌}
use lib.Dec.{eqb, ltb}
use lib.ListN.{length}
use Rattle.std.specs.Prelude.{None, Some}
use Rattle.laws.specs.Lists.{any}
use Rattle.laws.proofs.Tests.{below, both, equal, holds_not}
use Rattle.serial.specs.Serial.{is_before, offset_of}
use Rattle.serial.specs.declared.Range.{Range}
use Rattle.serial.specs.declared.Stamp.{Stamp}
use Rattle.receive.specs.Ranges.{is_out_of_order, meets, no_room, ranges_of}
use Rattle.receive.specs.Window.{acceptable, lacks_room, new_part}
use Rattle.receive.specs.declared.Part.{Part}
use Rattle.segment.specs.declared.Segment.{Segment}
use Rattle.send.proofs.AckRange.{too_old_exactly}
use Rattle.timestamps.specs.Timestamps.{is_missing, is_old, outdated, value_before}
use Rattle.connection.specs.declared.Connection.{Connection}
use Rattle.connection.specs.declared.Reason.{Reason}
use Rattle.connection.specs.declared.Verdict.{Verdict}
use Rattle.connection.specs.Numbers.{Action, drop_silent, drop_with_ack, reason_number, reset, take, verdict_of}
use Rattle.connection.specs.Verdict.{Row, rows}
use Rattle.connection.proofs.Table.{condition}

-- what the code's verdicts say: "drop, silent" is Silent, and "drop, send ACK" is WithAck, whatever the reason inside
pub verdicts_named : (verdict_of Verdict.Take ≡ record { number = 0; action = take }) × (verdict_of Verdict.Reset ≡ record { number = 25; action = reset })
    × ((why : Reason) → (verdict_of (Verdict.Silent why)).action ≡ drop_silent) × ((why : Reason) → (verdict_of (Verdict.WithAck why)).action ≡ drop_with_ack)
verdicts_named = (refl, refl, (λ why. refl), λ why. refl)

-- and the number of each reason, in the table's order
pub reasons_named : map reason_number
    (Reason.TimestampMissing ∷ Reason.TimestampOld ∷ Reason.ResetOutside ∷ Reason.Outside ∷ Reason.ResetInside ∷ Reason.SynInside
    ∷ Reason.AckMissing ∷ Reason.AckUnsent ∷ Reason.AckTooOld ∷ Reason.NoRoom ∷ [])
    ≡ 21 ∷ 22 ∷ 23 ∷ 24 ∷ 26 ∷ 27 ∷ 28 ∷ 29 ∷ 31 ∷ 30 ∷ []
reasons_named = refl

module _ (k : Connection) (clock : ℕ) (s : Segment) where
  abbrev Holds : ℕ → Type 0
  Holds n = condition n (rows k clock s) ≡ true

  abbrev is_acceptable : Bool
  is_acceptable = acceptable k.receive s.seq.0 s.len

  pub as_listed : map {B = ℕ × Action} (λ (r : Row). (r.number, r.action)) (rows k clock s)
      ≡ (21, drop_silent) ∷ (22, drop_with_ack) ∷ (23, drop_silent) ∷ (24, drop_with_ack) ∷ (25, reset) ∷ (26, drop_with_ack) ∷ (27, drop_with_ack)
      ∷ (28, drop_silent) ∷ (29, drop_with_ack) ∷ (31, drop_with_ack) ∷ (30, drop_with_ack) ∷ []
  unfolding rows
  as_listed = refl

  -- 21: timestamps in force, none here, no RST
  pub row_21 : s.options.timestamps ≡ None → Holds 21 ↔ ((k.timestamping.active ≡ true) × (s.flags.rst ≡ false))
  unfolding rows is_missing
  row_21 none_here = rw none_here (both k.timestamping.active (not s.flags.rst) Iff.rfl (holds_not s.flags.rst))

  module _ (value echoed : Stamp) (here : s.options.timestamps ≡ Some (record { value = value; echoed = echoed })) where
    pub row_21_not : condition 21 (rows k clock s) ≡ false
    unfolding rows is_missing
    row_21_not = rw here (and-false k.timestamping.active)

    -- 22: timestamps in force, no RST, TSval before TS.Recent, TS.Recent not outdated
    pub row_22 : Holds 22
        ↔ ((k.timestamping.active ≡ true)
        × ((s.flags.rst ≡ false) × ((is_before value.0 k.timestamping.recent.0 ≡ true) × (outdated k.timestamping clock ≡ false))))
    unfolding rows is_old value_before
    row_22 =
        rw here
        (both k.timestamping.active _ Iff.rfl
        (both (not s.flags.rst) _ (holds_not s.flags.rst)
        (both (is_before value.0 k.timestamping.recent.0) _ Iff.rfl (holds_not (outdated k.timestamping clock)))))

  pub row_22_not : s.options.timestamps ≡ None → condition 22 (rows k clock s) ≡ false
  unfolding rows is_old value_before
  row_22_not none_here = rw (none_here, and-false (not s.flags.rst)) (and-false k.timestamping.active)

  -- 23: not acceptable, RST
  pub row_23 : Holds 23 ↔ ((is_acceptable ≡ false) × (s.flags.rst ≡ true))
  unfolding rows
  row_23 = both (not is_acceptable) s.flags.rst (holds_not is_acceptable) Iff.rfl

  -- 24: not acceptable, no RST
  pub row_24 : Holds 24 ↔ ((is_acceptable ≡ false) × (s.flags.rst ≡ false))
  unfolding rows
  row_24 = both (not is_acceptable) (not s.flags.rst) (holds_not is_acceptable) (holds_not s.flags.rst)

  -- 25: RST, SEQ = RCV.NXT
  pub row_25 : Holds 25 ↔ ((s.flags.rst ≡ true) × (s.seq.0 ≡ k.receive.nxt.0))
  unfolding rows
  row_25 = both s.flags.rst (eqb s.seq.0 k.receive.nxt.0) Iff.rfl (equal s.seq.0 k.receive.nxt.0)

  -- 26: other RST
  pub row_26 : Holds 26 ↔ (s.flags.rst ≡ true)
  unfolding rows
  row_26 = Iff.rfl

  -- 27: SYN
  pub row_27 : Holds 27 ↔ (s.flags.syn ≡ true)
  unfolding rows
  row_27 = Iff.rfl

  -- 28: no ACK flag
  pub row_28 : Holds 28 ↔ (s.flags.ack ≡ false)
  unfolding rows
  row_28 = holds_not s.flags.ack

  -- 29: SND.NXT before ACK
  pub row_29 : Holds 29 ↔ (is_before k.send.nxt.0 s.ack.0 ≡ true)
  unfolding rows
  row_29 = Iff.rfl

  -- 31: ACK is more octets before UNA than the largest SND.WND, and at most 2^31
  pub row_31 : Holds 31
      ↔ ((k.send.largest < offset_of s.ack.0 k.send.una.0) × (offset_of s.ack.0 k.send.una.0 ≤ 2 ^ 31))
  unfolding rows
  row_31 = too_old_exactly k.send s.ack.0

  -- 30: eight are held, the part is not empty, does not start at 0, and neither overlaps nor touches any
  abbrev part : Part
  part = new_part k.receive s.seq.0 s.len

  abbrev held : List Range
  held = ranges_of k.receive.held

  pub row_30 : Holds 30
      ↔ ((length held ≡ 8) × (((0 < part.from) × (part.from < part.to)) × (any (meets k.receive.nxt.0 part) held ≡ false)))
  unfolding rows lacks_room no_room is_out_of_order
  row_30 =
      both (eqb (length held) 8) _ (equal (length held) 8)
      (both (ltb 0 part.from && ltb part.from part.to) _
      (both (ltb 0 part.from) (ltb part.from part.to) (below 0 part.from) (below part.from part.to))
      (holds_not (any (meets k.receive.nxt.0 part) held)))
