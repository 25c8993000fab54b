-- Calls on a record that is opened from a SYN of the history, and beside the record the true values that it does not hold (document 02, P7).
use Rattle.std.specs.Prelude.{true, cond, ◌&&◌, List, [], ◌∷◌, ◌≡◌, ℕ, ◌+◌, ◌*◌, ◌^◌, max}
use Rattle.serial.specs.Serial.{offset_of}
use Rattle.timestamps.specs.Timestamps.{is_recorded}
use Rattle.connection.specs.Arriving.{is_take}
use Rattle.connection.specs.Calls.{Call, Incoming, Way, acknowledgment, arrival, arrived, called, expiry, opened_under, sending, window}
use Rattle.connection.specs.Opening.{tsval_of}
use Rattle.connection.specs.declared.Connection.{Connection}
use Rattle.connection.specs.declared.Setup.{Setup}
use Rattle.acknowledgment.specs.Acknowledgment.{window_field}
use Rattle.paws.specs.History.{Brings, Sent, Unstamped}

pub record Run : Type 0 where
  pub now : Connection
  -- the true number of RCV.NXT, counted on from the SYN
  pub nxt : ℕ
  -- the true stamp in TS.Recent
  pub recent : ℕ
  -- the highest right edge that we have written
  pub edge : ℕ

-- "a record opened from its SYN with timestamps in force": by either way, from octets or from fields read before
pub record Opening (history : List Sent) : Type 0 where
  pub way : Way
  pub own : Setup
  pub clock : ℕ
  pub segment : Incoming
  pub opens : (opened_under way own clock segment).number ≡ 0
  pub active : (opened_under way own clock segment).connection.timestamping.active ≡ true
  pub syn : Brings history segment

-- RCV.NXT is the number after the SYN's; "our SYN's first window included": the first right edge is the peer's SEQ + 1 + first window
abbrev pub opened : {history : List Sent} → Opening history → Run
opened o = record {
  now = (opened_under o.way o.own o.clock o.segment).connection;
  nxt = o.syn.sent.start + 1;
  recent = o.syn.sent.stamp;
  edge = o.syn.sent.start + 1 + o.own.window;
}

-- whether a call brings no segment
abbrev pub BringsNone : Call → Type 0
BringsNone (arrival clock i) = ⊥
BringsNone (sending n) = Unit
BringsNone (window n) = Unit
BringsNone expiry = Unit
BringsNone acknowledgment = Unit

-- "any calls on that record, each arrival a segment of the history, late, twice or in any order"; or what no record with timestamps could take
pub data Step (history : List Sent) : Type 0 where
  arrives : (clock : ℕ) (i : Incoming) → Brings history i → Step history
  unstamped : (clock : ℕ) (i : Incoming) → Unstamped i → Step history
  other : (c : Call) → BringsNone c → Step history

-- an acknowledgment writes the right edge ACK + window field x 2^shift, and its ACK is RCV.NXT
abbrev pub edge_after : Run → Call → ℕ
edge_after r (arrival clock i) = r.edge
edge_after r (sending n) = r.edge
edge_after r (window n) = r.edge
edge_after r expiry = r.edge
edge_after r acknowledgment = max r.edge (r.nxt + window_field r.now.receive * 2 ^ r.now.receive.shift)

module _ {history : List Sent} where
  -- the call, one of `connection`'s
  abbrev pub call_of : Step history → Call
  call_of (arrives clock i b) = arrival clock i
  call_of (unstamped clock i u) = arrival clock i
  call_of (other c none) = c

  -- the true stamp in TS.Recent is the segment's if it is taken and its TSval is recorded
  abbrev pub recent_after : Run → Step history → ℕ
  recent_after r (arrives clock i b) =
      cond
      (is_take (arrived r.now clock i).decision.action
      && is_recorded r.now.timestamping clock r.now.receive.acked.0 b.fields.seq.0 (tsval_of b.fields.options.timestamps))
      b.sent.stamp r.recent
  recent_after r (unstamped clock i u) = r.recent
  recent_after r (other c none) = r.recent

  -- the true number of RCV.NXT moves on by as much as RCV.NXT does
  abbrev pub after : Run → Step history → Run
  after r s = record {
    now = called r.now (call_of s);
    nxt = r.nxt + offset_of r.now.receive.nxt.0 (called r.now (call_of s)).receive.nxt.0;
    recent = recent_after r s;
    edge = edge_after r (call_of s);
  }

  abbrev pub ran : Run → List (Step history) → Run
  ran r [] = r
  ran r (s ∷ ss) = ran (after r s) ss

  -- P holds of each step and the run that it finds
  abbrev pub Throughout : (Run → Step history → Type 0) → Run → List (Step history) → Type 0
  Throughout P r [] = Unit
  Throughout P r (s ∷ ss) = P r s × Throughout P (after r s) ss
