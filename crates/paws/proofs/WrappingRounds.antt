-- One round of the worked case: a segment arrives and is taken, the window is opened again, and an acknowledgment is written. Assumes nothing.
use mathlib.Core.Bool.{true, false, cond, ◌&&◌}
use mathlib.Core.List.{[]}
use mathlib.Core.Option.{some}
use mathlib.Core.Path.{◌≡◌, refl, sym, ap, subst, ◌∙◌}
use Prim.Native.Nat.{ℕ, zero, suc, ◌+◌, ◌*◌, ◌%◌, ◌^◌, ◌≤◌}
use native.Mathlib.Omega.{arith}
use lib.IntN.{neg_ℤ, pos}
use lib.Signed.{lt_z}
use Rattle.serial.specs.Serial.{distance_of, is_at_or_before, is_before, moved_by, offset_of}
use Rattle.serial.specs.declared.Seq.{Seq}
use Rattle.serial.proofs.Offset.{offset_moved, offset_self}
use Rattle.serial.proofs.TrueNumbers.{at_or_before_true, not_before_true, offset_true}
use Rattle.timestamps.specs.Timestamps as timestamps
use Rattle.timestamps.specs.Timestamps.{is_recorded, outdated, replaces_recent}
use Rattle.timestamps.specs.declared.Timestamping.{Timestamping}
use Rattle.receive.specs.Ranges.{held_of, joined, no_room, ranges_of}
use Rattle.receive.specs.Taking.{advanced, taken}
use Rattle.receive.specs.Window as receive
use Rattle.receive.specs.Window.{acceptable, lacks_room, new_part}
use Rattle.receive.specs.declared.Receive.{Receive}
use Rattle.segment.specs.declared.Segment.{Segment}
use Rattle.send.specs.Send.{is_too_old}
use Rattle.send.specs.declared.Send.{Send}
use Rattle.send.proofs.Laws.{take_leaves_nxt, una_stays}
use Rattle.connection.specs.Arriving.{Arrival, arriving_read, is_take, taken_by}
use Rattle.connection.specs.Calls.{Incoming, acknowledgment, arrived, window}
use Rattle.connection.specs.Opening.{tsval_of}
use Rattle.connection.specs.Operations as operations
use Rattle.connection.specs.Taking.{record_after}
use Rattle.connection.specs.Verdict.{none_holds, rows}
use Rattle.connection.specs.declared.Connection.{Connection}
use Rattle.connection.proofs.Incoming.{arrived_by_fields}
use Rattle.connection.proofs.Table.{taken_if}
use Rattle.acknowledgment.specs.Acknowledgment.{window_field}
use Rattle.paws.specs.History.{Brings, Sent}
use Rattle.paws.specs.Premises.{Allowed}
use Rattle.paws.specs.Runs.{Run, after, arrives, other}
use Rattle.paws.specs.Segments.{as_fields}
use Rattle.paws.specs.Wrapping.{history, piece, size}

-- the true number of RCV.NXT after n segments
abbrev pub place : ℕ → ℕ
place n = 5000 + n * size

-- RCV.NXT, the window and Last.ACK.sent, with nothing held
abbrev pub side : ℕ → ℕ → ℕ → Receive
side nxt wide acked = record { nxt = record { 0 = nxt }; window = wide; shift = 0; acked = record { 0 = acked }; held = held_of [] }

abbrev pub stamping : ℕ → Timestamping
stamping recent = record { active = true; recent = record { 0 = recent }; since = 100; offset = 7 }

module _ (x : ℕ) where
  new_part_lem : new_part (side x 65535 x) x size ≡ record { from = 0; to = size }
  unfolding new_part acceptable
  new_part_lem = rw (offset_self x, offset_moved x 32767 (omega arith))

  takes : taken (side x 65535 x) (new_part (side x 65535 x) x size) ≡ side (moved_by x size) 32767 x
  unfolding taken advanced joined ranges_of held_of
  takes = rw new_part_lem

  accepts : acceptable (side x 65535 x) x size ≡ true
  unfolding acceptable
  accepts = rw (offset_self x)

  has_room : lacks_room (side x 65535 x) x size ≡ false
  unfolding lacks_room no_room ranges_of held_of
  has_room = refl

-- after n segments, of which the first a are acknowledged, with TS.Recent as the first v left it
pub record State (wide n a v : ℕ) (r : Run) : Type 0 where
  pub side_is : r.now.receive ≡ side (place n % 2 ^ 32) wide (place a % 2 ^ 32)
  pub stamps_are : r.now.timestamping ≡ stamping ((50 + v) % 2 ^ 32)
  pub una_is : r.now.send.una ≡ record { 0 = 1000 }
  pub sent_is : r.now.send.nxt ≡ record { 0 = 1001 }
  pub nxt_is : r.nxt ≡ place n
  pub recent_is : r.recent ≡ 50 + v
  pub edge_least : place a + 65535 ≤ r.edge

-- ACK 1000 is that of all segments
not_unsent : is_before 1001 1000 ≡ false
unfolding distance_of offset_of
not_unsent = refl

not_too_old : (s : Send) → s.una ≡ record { 0 = 1000 } → is_too_old s 1000 ≡ false
unfolding is_too_old distance_of offset_of
not_too_old s una = rw una (least s.largest)
  where
    least : (n : ℕ) → lt_z (pos 0) (neg_ℤ (pos n)) ≡ false
    least zero = refl
    least (suc n) = refl

module _ (n : ℕ) (r : Run) (at : State 65535 n n n r) where
  abbrev s : Segment
  s = as_fields (piece n)

  abbrev k : Connection
  k = r.now

  abbrev x : ℕ
  x = place n % 2 ^ 32

  newer : is_before ((51 + n) % 2 ^ 32) ((50 + n) % 2 ^ 32) ≡ false
  newer = not_before_true ((51 + n) % 2 ^ 32) ((50 + n) % 2 ^ 32) (51 + n) (50 + n) refl refl (omega arith) (omega arith)

  order : is_at_or_before x x ≡ true
  order = at_or_before_true x x (place n) (place n) refl refl (omega arith) (omega arith)

  clear : none_holds (rows k 100 s) ≡ true
  unfolding rows timestamps.is_missing timestamps.is_old timestamps.value_before outdated as_fields
  clear = rw (not_too_old k.send at.una_is, at.side_is, at.stamps_are, at.sent_is, newer, accepts x, not_unsent, has_room x)

  is_taken : arriving_read k 100 s ≡ taken_by k 100 s
  is_taken = taken_if k 100 s (omega (arith, ap (λ (t : Timestamping). t.since) at.stamps_are)) clear

  recorded : is_recorded k.timestamping 100 k.receive.acked.0 s.seq.0 (tsval_of s.options.timestamps) ≡ true
  unfolding as_fields is_recorded replaces_recent
  recorded = rw (at.side_is, at.stamps_are, newer, order)

  side_after : taken k.receive (new_part k.receive s.seq.0 s.len) ≡ side (place (suc n) % 2 ^ 32) 32767 x
  unfolding as_fields
  side_after =
      let moved : moved_by x size ≡ place (suc n) % 2 ^ 32 = omega arith in
      rw (at.side_is, takes x, moved)

  stamps_after : timestamps.taken k.timestamping 100 k.receive.acked.0 s.seq.0 (tsval_of s.options.timestamps)
      ≡ stamping ((50 + suc n) % 2 ^ 32)
  unfolding as_fields timestamps.taken
  stamps_after =
      let same : 50 + suc n ≡ 51 + n = omega arith in
      rw (recorded, at.stamps_are, same)

  -- what the premises say of it
  pub round_allowed : Allowed r 100 (piece n)
  unfolding outdated
  round_allowed = record {
    within_edge = λ m has. omega (arith, at.edge_least);
    not_ahead = omega (arith, at.recent_is);
    not_behind = omega (arith, at.recent_is);
    not_outdated = rw at.stamps_are;
  }

  module _ (i : Incoming) (b : Brings history i) (fields_are : b.fields ≡ s) (is : b.sent ≡ piece n) where
    abbrev After : Segment → Arrival → Type 0
    After f a =
        State 32767 (suc n) n (suc n)
        (record {
          now = a.connection;
          nxt = r.nxt + offset_of k.receive.nxt.0 a.connection.receive.nxt.0;
          recent =
              cond
              (is_take a.decision.action
              && is_recorded k.timestamping 100 k.receive.acked.0 f.seq.0 (tsval_of f.options.timestamps))
              b.sent.stamp r.recent;
          edge = r.edge;
        })

    -- the segment is taken ..
    pub after_arrival : State 32767 (suc n) n (suc n) (after r (arrives 100 i b))
    unfolding taken_by record_after as_fields
    after_arrival =
        subst (λ f. After f (arrived k 100 i)) (sym fields_are)
        (subst (After s) (sym (arrived_by_fields k 100 i s (b.reads ∙ ap some fields_are) ∙ is_taken))
        (record {
          side_is = side_after;
          stamps_are = stamps_after;
          una_is = una_stays k.send _ (λ new. omega (arith, new.0, self)) ∙ at.una_is;
          sent_is = take_leaves_nxt k.send _ ∙ at.sent_is;
          nxt_is =
              rw (side_after, at.side_is)
              (omega (
                arith,
                at.nxt_is,
                offset_true x (place (suc n) % 2 ^ 32) (place n) (place (suc n)) refl refl (omega arith) (omega arith),
              ));
          recent_is = rw recorded (omega (arith, ap (λ (p : Sent). p.stamp) is));
          edge_least = at.edge_least;
        }))
      where
        self : offset_of k.send.una.0 s.ack.0 ≡ 0
        self = ap (λ (u : Seq). offset_of u.0 1000) at.una_is ∙ offset_self 1000

-- .. the window is opened again ..
module _ (n : ℕ) (r : Run) (at : State 32767 (suc n) n (suc n) r) where
  pub after_window : State 65535 (suc n) n (suc n) (after {history = history} r (other (window 65535) tt))
  unfolding operations.window_opened receive.window_opened receive.is_window_refused
  after_window = record {
    side_is = rw at.side_is;
    stamps_are = at.stamps_are;
    una_is = at.una_is;
    sent_is = at.sent_is;
    nxt_is = rw (at.side_is, offset_self (place (suc n) % 2 ^ 32)) (omega (arith, at.nxt_is));
    recent_is = at.recent_is;
    edge_least = at.edge_least;
  }

-- .. and an acknowledgment is written
module _ (n : ℕ) (r : Run) (at : State 65535 (suc n) n (suc n) r) where
  pub after_acknowledgment : State 65535 (suc n) (suc n) (suc n) (after {history = history} r (other acknowledgment tt))
  unfolding operations.acknowledged window_field
  after_acknowledgment = record {
    side_is = rw at.side_is;
    stamps_are = at.stamps_are;
    una_is = at.una_is;
    sent_is = at.sent_is;
    nxt_is = rw (offset_self r.now.receive.nxt.0) (omega (arith, at.nxt_is));
    recent_is = at.recent_is;
    edge_least = rw at.side_is (omega (arith, at.nxt_is));
  }
