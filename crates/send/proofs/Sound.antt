-- Every send side that the operations give back is sound: the shift stays as an opening cut it, the largest window is never lowered, and what
-- is outstanding was once let through by the window, but for our SYN. Assumes nothing.
use mathlib.Core.Bool.{Bool, true, false, cond}
use Prim.Native.Nat.{ℕ, max, ◌+◌, ◌≤◌}
use native.Mathlib.Omega.{arith}
use lib.Dec.{ltb}
use borrow.Author.Tests.{leb-true, ltb-false}
use Rattle.laws.proofs.Choices.{both_true, either}
use Rattle.serial.specs.Serial.{moved_by, offset_of}
use Rattle.serial.specs.declared.Seq.{Seq}
use Rattle.serial.proofs.Offset.{offset_between, offset_moved, offset_of_moved, offset_self}
use Rattle.send.specs.Send.{Answer, acknowledged, exceeds_window, is_new, opened, outstanding, sent, taken, updates_window, windowed}
use Rattle.send.specs.Sound.{Sound}
use Rattle.send.specs.declared.Send.{Send}
use Rattle.send.specs.declared.AckFields.{AckFields}

pub opened_sound : (iss shift : ℕ) (syn : AckFields) (flag : Bool) → Sound (opened iss shift syn flag)
unfolding opened
opened_sound iss shift syn flag = record { shift_most = omega arith; window_most = omega arith; outstanding_most = syn_alone flag }
  where
    syn_alone : (f : Bool) → offset_of (cond f (moved_by iss 1) iss) (moved_by iss 1) ≤ max 1 syn.window
    syn_alone true = omega (arith, offset_self (moved_by iss 1))
    syn_alone false = omega (arith, offset_moved iss 1 (omega arith))

module _ (s : Send) where
  -- a new ACK leaves fewer octets outstanding
  fewer : (ack : Seq) → offset_of (acknowledged s ack).una.0 s.nxt.0 ≤ outstanding s
  unfolding acknowledged is_new
  fewer ack =
      either (λ (una : Seq). offset_of una.0 s.nxt.0 ≤ outstanding s) (is_new s ack.0) ack s.una
      (λ new.
      let within = leb-true (offset_of s.una.0 ack.0) (outstanding s) (both_true (ltb 0 (offset_of s.una.0 ack.0)) _ new).1 in
      omega (arith, offset_between s.una.0 ack.0 s.nxt.0 within))
      (λ _. omega arith)

  pub acknowledged_sound : (ack : Seq) → Sound s → Sound (acknowledged s ack)
  unfolding acknowledged
  acknowledged_sound ack sound = record {
    shift_most = sound.shift_most;
    window_most = sound.window_most;
    outstanding_most = omega (arith, fewer ack, sound.outstanding_most);
  }

  pub windowed_sound : (fields : AckFields) → Sound s → Sound (windowed s fields)
  unfolding windowed
  windowed_sound fields sound = record {
    shift_most = sound.shift_most;
    window_most = omega arith;
    outstanding_most = omega (arith, sound.outstanding_most);
  }

pub taken_sound : (s : Send) (fields : AckFields) → Sound s → Sound (taken s fields)
unfolding taken
taken_sound s fields sound =
    let next = acknowledged_sound s fields.ack sound in
    either Sound (updates_window s fields) _ _ (λ _. windowed_sound (acknowledged s fields.ack) fields next) (λ _. next)

pub sent_sound : (s : Send) (n : ℕ) → Sound s → Sound (sent s n).send
unfolding sent exceeds_window
sent_sound s n sound =
    either (λ (a : Answer). Sound a.send) (exceeds_window s n) _ _ (λ _. sound)
    (λ within. record {
      shift_most = sound.shift_most;
      window_most = sound.window_most;
      outstanding_most =
          omega (arith, offset_of_moved s.una.0 s.nxt.0 n, ltb-false s.window (outstanding s + n) within, sound.window_most);
    })
