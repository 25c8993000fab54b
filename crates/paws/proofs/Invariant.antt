-- What holds of a run after any calls that the premises allow.
use mathlib.Core.Bool.{true}
use mathlib.Core.List.{List}
use mathlib.Core.Path.{◌≡◌}
use Prim.Native.Nat.{ℕ, ◌+◌, ◌%◌, ◌^◌, ◌≤◌, ◌<◌}
use native.Mathlib.Nat.{add-zero}
use Rattle.serial.specs.Serial.{offset_of}
use Rattle.serial.proofs.Offset.{offset_self}
use Rattle.timestamps.specs.declared.Timestamping.{Timestamping}
use Rattle.receive.specs.Coverage.{is_held}
use Rattle.receive.specs.Sound.{Sound}
use Rattle.receive.specs.declared.Receive.{Receive}
use Rattle.paws.specs.History.{In, Sent}
use Rattle.paws.specs.Runs.{Run}

-- a segment of the history with a stamp not above TS.Recent's that comes near RCV.NXT, and past Last.ACK.sent where RCV.NXT is past it
pub record Reached (history : List Sent) (recent last nxt : ℕ) : Type 0 where
  pub high : Sent
  pub sent : In history high
  pub not_above : high.stamp ≤ recent
  pub filled : 1 ≤ high.len
  pub near : nxt < high.start + high.len + 2 ^ 30
  pub past : last < nxt → last < high.start + high.len

-- of the receive side and the timestamps of a record, and the true values of its run
pub record Invariant (history : List Sent) (side : Receive) (stamps : Timestamping) (nxt recent edge : ℕ) : Type 0 where
  pub sound : Sound side
  pub active : stamps.active ≡ true
  -- the record's numbers are the true ones, modulo 2^32; `last` is the true Last.ACK.sent
  pub last : ℕ
  pub last_is : side.acked.0 ≡ last % 2 ^ 32
  pub nxt_is : side.nxt.0 ≡ nxt % 2 ^ 32
  pub recent_is : stamps.recent.0 ≡ recent % 2 ^ 32
  -- Last.ACK.sent, RCV.NXT, the highest edge written and the window's right edge stand in this order, within 2^30 of Last.ACK.sent
  pub acknowledged : last ≤ nxt
  pub offered : nxt ≤ edge
  pub in_window : edge ≤ nxt + side.window
  pub edge_most : edge ≤ last + 2 ^ 30
  -- what is held lies below the highest edge written
  pub held_below : (x : ℕ) → is_held side x ≡ true → nxt + offset_of side.nxt.0 x < edge
  pub reached : Reached history recent last nxt

abbrev pub Holds : List Sent → Run → Type 0
Holds history r = Invariant history r.now.receive r.now.timestamping r.nxt r.recent r.edge

-- a call that leaves RCV.NXT leaves its true number
pub unmoved : {history : List Sent} {side : Receive} {stamps : Timestamping} {nxt recent edge : ℕ} (a : ℕ)
    → Invariant history side stamps nxt recent edge → Invariant history side stamps (nxt + offset_of a a) recent edge
unmoved a inv = rw (offset_self a, add-zero) inv
