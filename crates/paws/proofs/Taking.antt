-- A segment that is taken: each octet of its new part is in place, and RCV.NXT and what is held stay below the highest edge written. Assumes
-- nothing.
use Rattle.std.specs.Prelude.{Some}
use mathlib.Core.Bool.{Bool, true, false, not, ◌&&◌, false≢true}
use mathlib.Core.List.{List}
use mathlib.Core.Logic.{◌⊎◌, inl, inr}
use mathlib.Core.Path.{◌≡◌, refl, sym, ap, ◌∙◌}
use Prim.Native.Nat.{ℕ, ◌+◌, ◌-◌, ◌%◌, ◌^◌, ◌≤◌, ◌<◌}
use native.Mathlib.Decide.{dec_le, dec_lt}
use native.Mathlib.Omega.{arith}
use lib.Dec.{leb, ltb}
use borrow.Author.Tests.{le-leb, le-ltb, leb-true, lt-ltb, ltb-true}
use Rattle.laws.proofs.Choices.{both_true, either_true}
use Rattle.serial.specs.Serial.{is_before, moved_by, offset_of}
use Rattle.serial.specs.declared.Stamp.{Stamp}
use Rattle.serial.proofs.Offset.{moved_offset, offset_around, offset_between, offset_moved, offset_self}
use Rattle.serial.proofs.TrueNumbers.{before_true, moved_true, same_true}
use Rattle.timestamps.specs.Timestamps.{is_old}
use Rattle.timestamps.proofs.Laws.{by_distance, old_given}
use Rattle.receive.specs.Coverage.{is_held, is_received}
use Rattle.receive.specs.Ranges.{lies_in}
use Rattle.receive.specs.Sound.{Sound}
use Rattle.receive.specs.Taking.{taken}
use Rattle.receive.specs.Window.{acceptable, lacks_room, new_part}
use Rattle.receive.specs.declared.Part.{Part}
use Rattle.receive.specs.declared.Receive.{Receive}
use Rattle.receive.proofs.Coverage.{held_inside, held_received, received_exactly}
use Rattle.receive.proofs.Edge.{window_narrows}
use Rattle.receive.proofs.Parts.{part_exactly, part_within}
use Rattle.receive.proofs.Taken.{taken_sound, window_below}
use Rattle.segment.specs.declared.Segment.{Segment}
use Rattle.connection.specs.Calls.{Incoming}
use Rattle.connection.specs.Opening.{tsval_of}
use Rattle.connection.specs.Verdict.{rows}
use Rattle.connection.specs.declared.Connection.{Connection}
use Rattle.connection.proofs.Table.{condition}
use Rattle.paws.specs.Claim.{InPlace, octet_at}
use Rattle.paws.specs.History.{Brings, Sent}
use Rattle.paws.specs.Premises.{Allowed, Peer}
use Rattle.paws.specs.Runs.{Run}
use Rattle.paws.proofs.Invariant.{Holds}

module _ {history : List Sent} {i : Incoming} (r : Run) (b : Brings history i) where
  abbrev pub side_after : Receive
  side_after = taken r.now.receive (new_part r.now.receive b.fields.seq.0 b.fields.len)

  -- how far RCV.NXT moves
  abbrev pub advance_of : ℕ
  advance_of = offset_of r.now.receive.nxt.0 side_after.nxt.0

-- what a take that the premises allow comes to
pub record Took {history : List Sent} {i : Incoming} (r : Run) (b : Brings history i) : Type 0 where
  -- its stamp is not below the one in TS.Recent, and it starts less than 2^31 below RCV.NXT
  pub not_before : is_before (b.sent.stamp % 2 ^ 32) r.now.timestamping.recent.0 ≡ false
  pub not_older : r.recent ≤ b.sent.stamp
  pub not_far : r.nxt < b.sent.start + 2 ^ 31
  -- the receive side afterwards: RCV.NXT moves on, only over a segment that has it, and not past the highest edge written
  pub sound : Sound (side_after r b)
  pub narrows : advance_of r b + (side_after r b).window ≡ r.now.receive.window
  pub moves_below : r.nxt + advance_of r b ≤ r.edge
  pub covers : 0 < advance_of r b → (b.sent.start ≤ r.nxt) × (r.nxt < b.sent.start + b.sent.len)
  pub held_below : (x : ℕ) → is_held (side_after r b) x ≡ true → r.nxt + advance_of r b + offset_of (side_after r b).nxt.0 x < r.edge

-- what verdict 24 says of a segment without RST
accepts : (acc rst : Bool) → rst ≡ false → not acc && not rst ≡ false → acc ≡ true
accepts true rst e f = refl
accepts false rst e f = absurd (false≢true (sym f ∙ ap not e))

module _
    {history : List Sent} (peer : Peer history) (r : Run) (inv : Holds history r) (clock : ℕ) {i : Incoming}
    (b : Brings history i) (allowed : Allowed r clock b.sent)
    -- the segment is taken: no row of the table holds
    (clear : (n : ℕ) → condition n (rows r.now clock b.fields) ≡ false)
  where
    abbrev p : Sent
    p = b.sent

    abbrev k : Connection
    k = r.now

    abbrev side : Receive
    side = k.receive

    abbrev nxt : ℕ
    nxt = side.nxt.0

    abbrev s : Segment
    s = b.fields

    abbrev new : Part
    new = new_part side s.seq.0 s.len

    abbrev value : Stamp
    value = record { 0 = p.stamp % 2 ^ 32 }

    no_rst : s.flags.rst ≡ false
    unfolding rows
    no_rst = clear 26

    accepted : acceptable side s.seq.0 s.len ≡ true
    unfolding rows
    accepted = accepts (acceptable side s.seq.0 s.len) s.flags.rst no_rst (clear 24)

    room : lacks_room side s.seq.0 s.len ≡ false
    unfolding rows
    room = clear 30

    -- its stamp is not below the one in TS.Recent, which is not outdated: verdict 22 is not given
    not_before : is_before (p.stamp % 2 ^ 32) k.timestamping.recent.0 ≡ false
    unfolding rows
    not_before = pick (is_before (p.stamp % 2 ^ 32) k.timestamping.recent.0) refl
      where
        stamped : is_old k.timestamping clock (tsval_of s.options.timestamps) s.flags.rst ≡ is_old k.timestamping clock (Some value) false
        stamped = λ j. is_old k.timestamping clock (tsval_of (b.stamp j)) (no_rst j)

        pick : (t : Bool) → is_before (p.stamp % 2 ^ 32) k.timestamping.recent.0 ≡ t → t ≡ false
        pick false e = refl
        pick true e =
            sym (old_given k.timestamping clock (Some value) inv.active (by_distance k.timestamping.recent.0 value ∙ e)
            allowed.not_outdated)
            ∙ (sym stamped ∙ clear 22)

    not_older : r.recent ≤ p.stamp
    not_older = pick (dec_le r.recent p.stamp)
      where
        pick : Dec (r.recent ≤ p.stamp) → r.recent ≤ p.stamp
        pick (yes h) = h
        pick (no h) =
            absurd
            (false≢true
            (sym not_before
            ∙ before_true (p.stamp % 2 ^ 32) k.timestamping.recent.0 p.stamp r.recent refl inv.recent_is (omega arith)
            allowed.not_behind))

    -- so it starts less than 2^31 below RCV.NXT
    not_far : r.nxt < p.start + 2 ^ 31
    not_far =
        let h = inv.reached in
        omega (
          arith,
          h.near,
          peer.starts_near p h.high (h.high.start + h.high.len - 1) b.in_history h.sent (omega (arith, not_older, h.not_above))
              (omega (arith, h.filled), omega (arith, h.filled)),
        )

    -- LEN and the window are far from 2^32
    short : s.len + side.window ≤ 2 ^ 32
    short = pick (dec_lt 0 p.len)
      where
        pick : Dec (0 < p.len) → s.len + side.window ≤ 2 ^ 32
        pick (no h) = omega (arith, b.len, window_below side inv.sound)
        pick (yes h) =
            omega (
              arith,
              b.len,
              window_below side inv.sound,
              peer.starts_near p p (p.start + p.len - 1) b.in_history b.in_history (omega arith) (omega arith, omega arith),
            )

    -- a place in the new part
    pub in_place : (o : ℕ) → new.from ≤ o → o < new.to → InPlace r s.seq.0 p o
    unfolding octet_at
    in_place o from to = record { within = inside; true_number = omega (arith, number) }
      where
        x : ℕ
        x = moved_by nxt o

        j : ℕ
        j = offset_of s.seq.0 x

        small : (new.to ≤ side.window) × (side.window < 2 ^ 30)
        small = (part_within side s.seq.0 s.len, window_below side inv.sound)

        at : offset_of nxt x ≡ o
        at = offset_moved nxt o (omega (arith, small))

        lies : lies_in new (offset_of nxt x) ≡ true
        lies = rw (at, le-leb new.from o from) (lt-ltb o new.to to)

        inside : j < p.len
        inside =
            let tests = both_true (ltb (offset_of nxt x) side.window) (ltb j s.len) (sym (part_exactly side s.seq.0 s.len short accepted x) ∙ lies) in
            omega (arith, ltb-true j s.len tests.1, b.len)

        same : (p.start + j) % 2 ^ 32 ≡ (r.nxt + o) % 2 ^ 32
        same =
            let of_place = moved_true nxt r.nxt o inv.nxt_is in
            let of_octet = moved_true s.seq.0 p.start j b.seq in
            omega (arith, moved_offset s.seq.0 x)

        number : p.start + j ≡ r.nxt + o
        number =
            same_true (p.start + j) (r.nxt + o) same
            (omega (arith, small, inv.in_window, allowed.within_edge (p.start + j) (omega arith, omega (arith, inside))))
            (omega (arith, small, not_far))

    -- of an offset that lies in the new part
    record Lies (o : ℕ) : Type 0 where
      low : p.start ≤ r.nxt + o
      high : r.nxt + o < p.start + p.len
      below : r.nxt + o < r.edge

    lies_in_lem : (o : ℕ) → lies_in new o ≡ true → Lies o
    lies_in_lem o t =
        let tests = both_true (leb new.from o) (ltb o new.to) t in
        let g = in_place o (leb-true _ _ tests.0) (ltb-true _ _ tests.1) in
        let low : p.start ≤ r.nxt + o = omega (arith, g.true_number) in
        let high : r.nxt + o < p.start + p.len = omega (arith, g.true_number, g.within) in
        record { low = low; high = high; below = allowed.within_edge (r.nxt + o) (low, high) }

    -- the receive side afterwards
    abbrev next : Receive
    next = side_after r b

    abbrev by : ℕ
    by = advance_of r b

    next_sound : Sound next
    next_sound = taken_sound side s.seq.0 s.len inv.sound

    narrows : by + next.window ≡ side.window
    narrows = window_narrows side new inv.sound (part_within side s.seq.0 s.len)

    -- what is received then was held before, or is one of the segment's
    received : (x : ℕ) → is_received nxt next x ≡ true → (is_held side x ≡ true) ⊎ Lies (offset_of nxt x)
    received x t =
        pick
        (either_true (is_received nxt side x) (lies_in new (offset_of nxt x))
        (sym (received_exactly side inv.sound s.seq.0 s.len room x) ∙ t))
      where
        pick : (is_received nxt side x ≡ true) ⊎ (lies_in new (offset_of nxt x) ≡ true) → (is_held side x ≡ true) ⊎ Lies (offset_of nxt x)
        pick (inl h) = inl (rw (offset_self nxt, le-ltb (offset_of nxt x) 0 (omega arith)) at h)
        pick (inr h) = inr (lies_in_lem (offset_of nxt x) h)

    received_below : (x : ℕ) → is_received nxt next x ≡ true → r.nxt + offset_of nxt x < r.edge
    received_below x t = pick (received x t)
      where
        pick : (is_held side x ≡ true) ⊎ Lies (offset_of nxt x) → r.nxt + offset_of nxt x < r.edge
        pick (inl h) = inv.held_below x h
        pick (inr l) = l.below

    -- a number that RCV.NXT passed
    passes : (x : ℕ) → offset_of nxt x < by → is_received nxt next x ≡ true
    passes x less = rw (lt-ltb (offset_of nxt x) by less)

    -- RCV.NXT stays below the highest edge written
    moves_below : r.nxt + by ≤ r.edge
    moves_below = pick (dec_lt 0 by)
      where
        pick : Dec (0 < by) → r.nxt + by ≤ r.edge
        pick (no h) = omega (arith, inv.offered)
        pick (yes h) =
            let x : ℕ = moved_by nxt (by - 1) in
            let at : offset_of nxt x ≡ by - 1 = offset_moved nxt (by - 1) (omega (arith, narrows, window_below side inv.sound)) in
            omega (arith, received_below x (passes x (omega arith)))

    -- and moves only over a segment that has it
    covers : 0 < by → (p.start ≤ r.nxt) × (r.nxt < p.start + p.len)
    covers moves = pick (received nxt (passes nxt (omega (arith, self))))
      where
        self : offset_of nxt nxt ≡ 0
        self = offset_self nxt

        pick : (is_held side nxt ≡ true) ⊎ Lies (offset_of nxt nxt) → (p.start ≤ r.nxt) × (r.nxt < p.start + p.len)
        pick (inl h) = absurd (omega (arith, self, (held_inside side inv.sound nxt h).0))
        pick (inr l) = (omega (arith, self, l.low), omega (arith, self, l.high))

    -- what is held then lies past RCV.NXT, so that its offset is as much less
    held_after : (x : ℕ) → is_held next x ≡ true → r.nxt + by + offset_of next.nxt.0 x < r.edge
    held_after x held = pick (dec_le by (offset_of nxt x))
      where
        inside : offset_of next.nxt.0 x < next.window
        inside = (held_inside next next_sound x held).1

        pick : Dec (by ≤ offset_of nxt x) → r.nxt + by + offset_of next.nxt.0 x < r.edge
        pick (yes h) = omega (arith, offset_between nxt next.nxt.0 x h, received_below x (held_received nxt next x held))
        pick (no h) =
            absurd (omega (arith, offset_around nxt next.nxt.0 x (omega arith), inside, narrows, window_below side inv.sound))

    pub took : Took r b
    took = record {
      not_before = not_before;
      not_older = not_older;
      not_far = not_far;
      sound = next_sound;
      narrows = narrows;
      moves_below = moves_below;
      covers = covers;
      held_below = held_after;
    }
