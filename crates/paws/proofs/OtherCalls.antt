-- The calls that bring no segment leave the invariant. Assumes nothing.
use mathlib.Core.Bool.{false}
use mathlib.Core.List.{List}
use mathlib.Core.Path.{◌≡◌, subst}
use Prim.Native.Nat.{ℕ, ◌+◌, ◌*◌, ◌^◌, ◌≤◌, max}
use native.Mathlib.Omega.{arith}
use lib.Dec.{ltb}
use borrow.Author.Tests.{ltb-false}
use Rattle.laws.proofs.Choices.{either, neither}
use Rattle.serial.specs.Serial.{offset_of}
use Rattle.receive.specs.Sound.{Sound}
use Rattle.receive.specs.Taking as taking
use Rattle.receive.specs.Window as receive
use Rattle.receive.specs.declared.Receive.{Receive}
use Rattle.receive.proofs.Opening.{opened_window_sound, window_opens}
use Rattle.receive.proofs.Taken.{acknowledged_sound, window_below}
use Rattle.connection.specs.Calls.{acknowledgment, expiry, sending, window}
use Rattle.connection.specs.Operations as operations
use Rattle.acknowledgment.specs.Acknowledgment.{window_field}
use Rattle.acknowledgment.proofs.Window.{window_written}
use Rattle.paws.specs.History.{Sent}
use Rattle.paws.specs.Runs.{Run, after, other}
use Rattle.paws.proofs.Invariant.{Holds, Invariant, unmoved}

module _ {history : List Sent} (r : Run) (inv : Holds history r) where
  abbrev side : Receive
  side = r.now.receive

  -- opening the window
  widened : (n : ℕ) → receive.is_window_refused side n ≡ false
      → Invariant history (receive.with_window side n) r.now.timestamping r.nxt r.recent r.edge
  unfolding receive.is_window_refused
  widened n given =
      let wider : side.window ≤ n = ltb-false _ _ (neither (ltb n side.window) (ltb (65535 * 2 ^ side.shift) n) given).0 in
      record {
        sound = subst (λ (a : receive.Answer). Sound a.receive) (window_opens side n given) (opened_window_sound side n inv.sound);
        active = inv.active;
        last = inv.last;
        last_is = inv.last_is;
        nxt_is = inv.nxt_is;
        recent_is = inv.recent_is;
        acknowledged = inv.acknowledged;
        offered = inv.offered;
        in_window = omega (arith, inv.in_window);
        edge_most = inv.edge_most;
        held_below = inv.held_below;
        reached = inv.reached;
      }

  pub after_window : (n : ℕ) → Holds history (after {history = history} r (other (window n) tt))
  unfolding operations.window_opened receive.window_opened
  after_window n =
      either
      (λ (a : receive.Answer).
      Invariant history a.receive r.now.timestamping (r.nxt + offset_of side.nxt.0 a.receive.nxt.0) r.recent r.edge)
      (receive.is_window_refused side n) _ _ (λ _. unmoved side.nxt.0 inv) (λ given. unmoved side.nxt.0 (widened n given))

  -- writing an acknowledgment
  acknowledges : Invariant history (taking.acknowledged side) r.now.timestamping r.nxt r.recent
      (max r.edge (r.nxt + window_field side * 2 ^ side.shift))
  acknowledges =
      let offer = (window_written side inv.sound).0 in
      let h = inv.reached in
      record {
        sound = acknowledged_sound side inv.sound;
        active = inv.active;
        last = r.nxt;
        last_is = inv.nxt_is;
        nxt_is = inv.nxt_is;
        recent_is = inv.recent_is;
        acknowledged = omega arith;
        offered = omega (arith, inv.offered);
        in_window = omega (arith, inv.in_window);
        edge_most = omega (arith, inv.in_window, window_below side inv.sound);
        held_below = λ x held. omega (arith, inv.held_below x held);
        reached =
            record {
              high = h.high;
              sent = h.sent;
              not_above = h.not_above;
              filled = h.filled;
              near = h.near;
              past = λ less. absurd (omega arith);
            };
      }

  pub after_acknowledgment : Holds history (after {history = history} r (other acknowledgment tt))
  unfolding operations.acknowledged
  after_acknowledgment = unmoved side.nxt.0 acknowledges

  -- the others leave the receive side and the timestamps
  pub after_sending : (n : ℕ) → Holds history (after {history = history} r (other (sending n) tt))
  unfolding operations.sent
  after_sending n = unmoved side.nxt.0 inv

  pub after_expiry : Holds history (after {history = history} r (other expiry tt))
  unfolding operations.expired
  after_expiry = unmoved side.nxt.0 inv
