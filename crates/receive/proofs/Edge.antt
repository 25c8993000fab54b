-- The right window edge stays where RCV.NXT advances: the window loses as much as RCV.NXT gains. Nor does a take change the shift or
-- Last.ACK.sent, and writing an acknowledgment sets that alone. Assumes nothing.
use mathlib.Core.Path.{◌≡◌, refl}
use Prim.Native.Nat.{ℕ, ◌+◌, ◌≤◌}
use native.Mathlib.Omega.{arith}
use lib.Dec.{eqb}
use Rattle.serial.specs.Serial.{moved_by, offset_of}
use Rattle.serial.proofs.Offset.{offset_moved, offset_self}
use Rattle.receive.specs.declared.Part.{Part}
use Rattle.receive.specs.declared.Receive.{Receive}
use Rattle.receive.specs.Sound.{Sound}
use Rattle.receive.specs.Taking.{acknowledged, advance, advanced, holding, taken}
use Rattle.receive.specs.Window.{new_part}
use Rattle.laws.proofs.Choices.{either}
use Rattle.receive.proofs.Parts.{part_within}
use Rattle.receive.proofs.Taken.{advance_within, window_below}

pub right_edge_stays : (r : Receive) (seq len : ℕ) → Sound r
    → let t = taken r (new_part r seq len) in moved_by t.nxt.0 t.window ≡ moved_by r.nxt.0 r.window
unfolding taken advanced holding
right_edge_stays r seq len s =
    let p = new_part r seq len in
    either (λ t. moved_by t.nxt.0 t.window ≡ moved_by r.nxt.0 r.window) (eqb p.from 0) (advanced r p) (holding r p)
    (λ _. omega (arith, advance_within r s p (part_within r seq len))) (λ _. refl)

module _ (r : Receive) (p : Part) where
  -- in whole numbers: how far RCV.NXT advances, and the window afterwards, are the window before
  pub window_narrows : Sound r → p.to ≤ r.window → offset_of r.nxt.0 (taken r p).nxt.0 + (taken r p).window ≡ r.window
  unfolding taken advanced holding
  window_narrows s within =
      either (λ t. offset_of r.nxt.0 t.nxt.0 + t.window ≡ r.window) (eqb p.from 0) (advanced r p) (holding r p)
      (λ _.
      let most = advance_within r s p within in
      omega (arith, offset_moved r.nxt.0 (advance r p) (omega (arith, window_below r s))))
      (λ _. omega (arith, offset_self r.nxt.0))

  pub shift_stays : (taken r p).shift ≡ r.shift
  unfolding taken advanced holding
  shift_stays = either (λ t. t.shift ≡ r.shift) (eqb p.from 0) (advanced r p) (holding r p) (λ _. refl) (λ _. refl)

  pub acked_stays : (taken r p).acked ≡ r.acked
  unfolding taken advanced holding
  acked_stays = either (λ t. t.acked ≡ r.acked) (eqb p.from 0) (advanced r p) (holding r p) (λ _. refl) (λ _. refl)

-- writing an acknowledgment sets Last.ACK.sent to RCV.NXT, and changes nothing else
pub record Acknowledges (r t : Receive) : Type 0 where
  pub acked_is : t.acked ≡ r.nxt
  pub nxt_stays : t.nxt ≡ r.nxt
  pub window_stays : t.window ≡ r.window
  pub shift_same : t.shift ≡ r.shift
  pub held_stays : t.held ≡ r.held

pub acknowledged_only : (r : Receive) → Acknowledges r (acknowledged r)
acknowledged_only r = record { acked_is = refl; nxt_stays = refl; window_stays = refl; shift_same = refl; held_stays = refl }
