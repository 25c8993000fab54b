-- The right window edge stays whatever arrives: where RCV.NXT advances, the window loses as much. Assumes nothing.
use mathlib.Core.Path.{◌≡◌, refl}
use Prim.Native.Nat.{ℕ}
use Rattle.serial.specs.Serial.{moved_by}
use Rattle.receive.proofs.Edge as receive
use Rattle.connection.specs.declared.Connection.{Connection}
use Rattle.connection.specs.Record.{Sound}
use Rattle.connection.specs.Taking.{record_after}
use Rattle.connection.specs.Calls.{Incoming, arrived}
use Rattle.connection.proofs.Incoming.{arrived_cases}

-- the sequence number at which the window ends
abbrev pub right_edge : Connection → ℕ
right_edge k = moved_by k.receive.nxt.0 k.receive.window

pub right_edge_stays : (k : Connection) → Sound k → (clock : ℕ) (i : Incoming) → right_edge (arrived k clock i).connection ≡ right_edge k
unfolding record_after
right_edge_stays k h clock i =
    arrived_cases (λ (r : Connection). right_edge r ≡ right_edge k) k refl clock i
    (λ s _. search (receive.right_edge_stays k.receive s.seq.0 s.len h.receive_sound))
