-- An arrival that the premises allow has each octet in place, and leaves the invariant. Assumes nothing.
use Rattle.std.specs.Prelude.{Option}
use mathlib.Core.Bool.{Bool, true, false, cond, ◌&&◌}
use mathlib.Core.List.{List}
use mathlib.Core.Logic.{inl}
use mathlib.Core.Option.{some-ne-none}
use mathlib.Core.Path.{◌≡◌, sym, ap, subst, ◌∙◌}
use Prim.Native.Nat.{ℕ, ◌+◌, ◌%◌, ◌^◌, ◌≤◌, ◌<◌}
use native.Mathlib.Decide.{dec_lt}
use native.Mathlib.Omega.{arith}
use Rattle.laws.proofs.Choices.{either}
use Rattle.serial.specs.declared.Stamp.{Stamp}
use Rattle.serial.specs.Serial.{moved_by, offset_of}
use Rattle.serial.specs.declared.Seq.{Seq}
use Rattle.serial.proofs.Offset.{moved_offset}
use Rattle.serial.proofs.TrueNumbers.{at_or_before_true, moved_true}
use Rattle.timestamps.specs.Timestamps as timestamps
use Rattle.timestamps.specs.Timestamps.{is_recorded, stamp_of, with_recent}
use Rattle.timestamps.specs.declared.Timestamping.{Timestamping}
use Rattle.timestamps.proofs.Laws.{recorded_given}
use Rattle.receive.specs.Window.{new_part}
use Rattle.receive.specs.declared.Receive.{Receive}
use Rattle.receive.proofs.Edge.{acked_stays}
use Rattle.segment.specs.declared.Segment.{Segment}
use Rattle.connection.specs.Arriving.{Arrival, arriving_read, is_take, taken_by}
use Rattle.connection.specs.Calls.{Incoming, arrived, read, unread}
use Rattle.connection.specs.Opening.{tsval_of}
use Rattle.connection.specs.Taking.{record_after}
use Rattle.connection.specs.declared.Connection.{Connection}
use Rattle.connection.proofs.Incoming.{arrived_by_fields, unreadable_refused}
use Rattle.connection.proofs.OnlyTake.{unstamped_left}
use Rattle.connection.proofs.Table.{arriving_cases}
use Rattle.paws.specs.Claim.{EachInPlace, InPlace}
use Rattle.paws.specs.History.{Brings, Sent, Unstamped, unreadable, without}
use Rattle.paws.specs.Premises.{Allowed, Peer}
use Rattle.paws.specs.Runs.{Run, after, arrives, unstamped}
use Rattle.paws.proofs.Invariant.{Holds, Invariant, Reached, unmoved}
use Rattle.paws.proofs.Taking.{Took, advance_of, in_place, side_after, took}

-- a segment of the history
module _
    {history : List Sent} (peer : Peer history) (r : Run) (inv : Holds history r) (clock : ℕ) (i : Incoming)
    (b : Brings history i) (allowed : Allowed r clock b.sent)
  where
    abbrev p : Sent
    p = b.sent

    abbrev k : Connection
    k = r.now

    abbrev side : Receive
    side = k.receive

    abbrev s : Segment
    s = b.fields

    abbrev value : Option Stamp
    value = tsval_of s.options.timestamps

    -- TSval is recorded if it is taken
    abbrev recorded : Bool
    recorded = is_recorded k.timestamping clock side.acked.0 s.seq.0 value

    -- it is taken
    module _ (t : Took r b) where
      abbrev next : Receive
      next = side_after r b

      abbrev by : ℕ
      by = advance_of r b

      -- TS.Recent afterwards
      abbrev recent : ℕ
      recent = cond recorded p.stamp r.recent

      abbrev stamps : Timestamping
      stamps = timestamps.taken k.timestamping clock side.acked.0 s.seq.0 value

      rises : r.recent ≤ recent
      rises = either (λ x. r.recent ≤ x) recorded p.stamp r.recent (λ _. t.not_older) (λ _. omega arith)

      active_after : stamps.active ≡ true
      unfolding timestamps.taken
      active_after = either (λ (t : Timestamping). t.active ≡ true) recorded _ _ (λ _. inv.active) (λ _. inv.active)

      recent_after_lem : stamps.recent.0 ≡ recent % 2 ^ 32
      unfolding timestamps.taken
      recent_after_lem = pick recorded
        where
          pick : (b : Bool) → (cond b (with_recent k.timestamping clock value) k.timestamping).recent.0
              ≡ cond b p.stamp r.recent % 2 ^ 32
          pick true = ap (λ t. (stamp_of (tsval_of t)).0) b.stamp
          pick false = inv.recent_is

      -- a segment that starts at or before Last.ACK.sent is recorded
      records_early : p.start ≤ inv.last → recent ≡ p.stamp
      records_early early =
          ap (λ b. cond b p.stamp r.recent)
          (ap (λ t. is_recorded k.timestamping clock side.acked.0 s.seq.0 (tsval_of t)) b.stamp
          ∙ recorded_given k.timestamping clock side.acked.0 s.seq.0 _ inv.active (inl t.not_before)
          (at_or_before_true s.seq.0 side.acked.0 p.start inv.last b.seq inv.last_is early
          (omega (arith, t.not_far, inv.acknowledged))))

      reached : Reached history recent inv.last (r.nxt + by)
      reached = pick (dec_lt 0 by) (dec_lt inv.last r.nxt)
        where
          h : Reached history r.recent inv.last r.nxt
          h = inv.reached

          pick : Dec (0 < by) → Dec (inv.last < r.nxt) → Reached history recent inv.last (r.nxt + by)
          pick (no stays) d = record {
            high = h.high;
            sent = h.sent;
            not_above = omega (arith, rises, h.not_above);
            filled = h.filled;
            near = omega (arith, h.near);
            past = λ less. h.past (omega arith);
          }
          pick (yes moves) (yes less) = record {
            high = h.high;
            sent = h.sent;
            not_above = omega (arith, rises, h.not_above);
            filled = h.filled;
            near = omega (arith, h.past less, t.moves_below, inv.edge_most);
            past = λ _. h.past less;
          }
          pick (yes moves) (no less) =
              let c = t.covers moves in
              record {
                high = p;
                sent = b.in_history;
                not_above = omega (arith, records_early (omega (arith, inv.acknowledged)));
                filled = omega arith;
                near = omega (arith, t.moves_below, inv.edge_most, inv.acknowledged);
                past = λ _. omega (arith, inv.acknowledged);
              }

      after_take : Invariant history next stamps (r.nxt + by) recent r.edge
      after_take = record {
        sound = t.sound;
        active = active_after;
        last = inv.last;
        last_is = ap (λ (x : Seq). x.0) (acked_stays side (new_part side s.seq.0 s.len)) ∙ inv.last_is;
        nxt_is = next_is ∙ moved_true side.nxt.0 r.nxt by inv.nxt_is;
        recent_is = recent_after_lem;
        acknowledged = omega (arith, inv.acknowledged);
        offered = t.moves_below;
        in_window = omega (arith, inv.in_window, t.narrows);
        edge_most = inv.edge_most;
        held_below = t.held_below;
        reached = reached;
      }
        where
          next_is : next.nxt.0 ≡ moved_by side.nxt.0 by
          next_is = omega (arith, moved_offset side.nxt.0 next.nxt.0, t.sound.nxt_below)

    -- it acts by its fields
    by_fields : arrived k clock i ≡ arriving_read k clock s
    by_fields = arrived_by_fields k clock i s b.reads

    pub arrival_in_place : EachInPlace r (arrives clock i b)
    unfolding taken_by
    arrival_in_place =
        rw by_fields
        (arriving_cases k clock s (λ a. (o : ℕ) → a.part.from ≤ o → o < a.part.to → InPlace r s.seq.0 p o)
        (in_place peer r inv clock b allowed) (λ d place skipped drops o low high. absurd (omega arith)))

    abbrev After : Arrival → Type 0
    After a =
        Invariant history a.connection.receive a.connection.timestamping
        (r.nxt + offset_of side.nxt.0 a.connection.receive.nxt.0) (cond (is_take a.decision.action && recorded) p.stamp r.recent)
        r.edge

    pub after_arrival : Holds history (after r (arrives clock i b))
    unfolding taken_by record_after
    after_arrival =
        subst After (sym by_fields)
        (arriving_cases k clock s After (λ clear. after_take (took peer r inv clock b allowed clear))
        (λ d place skipped drops. rw drops (unmoved side.nxt.0 inv)))

-- what is no segment of the history
module _ {history : List Sent} (r : Run) (inv : Holds history r) (clock : ℕ) where
  pub unstamped_in_place : (i : Incoming) (u : Unstamped i) → EachInPlace {history = history} r (unstamped clock i u)
  unstamped_in_place (unread octets) (unreadable is) =
      let left = unreadable_refused r.now clock octets is in
      (ap (λ (a : Arrival). a.connection) left, ap (λ (a : Arrival). a.part) left)
  unstamped_in_place (read s) (unreadable is) = absurd (some-ne-none s is)
  unstamped_in_place i (without s is lacks) =
      subst (λ (a : Arrival). (a.connection ≡ r.now) × (a.part ≡ record { from = 0; to = 0 })) (sym (arrived_by_fields r.now clock i s is))
      (unstamped_left r.now clock s inv.active lacks)

  pub after_unstamped : (i : Incoming) (u : Unstamped i) → Holds history (after {history = history} r (unstamped clock i u))
  after_unstamped i u =
      subst
      (λ (k : Connection).
      Invariant history k.receive k.timestamping (r.nxt + offset_of r.now.receive.nxt.0 k.receive.nxt.0) r.recent r.edge)
      (sym (unstamped_in_place i u).0) (unmoved r.now.receive.nxt.0 inv)
