-- Every operation gives back a sound record. Assumes nothing.
use Prim.Native.Nat.{ℕ}
use native.Mathlib.Omega.{arith}
use Rattle.serial.specs.Serial.{moved_by}
use Rattle.serial.proofs.Offset.{offset_self}
use Rattle.receive.proofs.Opening as opening_side
use Rattle.receive.proofs.Taken as receive_side
use Rattle.rto.specs.Calls.{expiry}
use Rattle.rto.proofs.Sound.{sound_called, sound_new, sound_run}
use Rattle.segment.specs.declared.Segment.{Segment}
use Rattle.send.proofs.Sound as send_side
use Rattle.connection.specs.declared.Connection.{Connection}
use Rattle.connection.specs.declared.Setup.{Setup}
use Rattle.connection.specs.Record.{Sound, blank}
use Rattle.connection.specs.Opening.{ack_fields_of, record_from, record_with}
use Rattle.connection.specs.Taking.{fed_by, record_after}
use Rattle.connection.specs.Operations.{acknowledged, expired, sent, window_opened}
use Rattle.connection.specs.Calls.{Incoming, Way, arrived, opened_under}
use Rattle.connection.proofs.Incoming.{arrived_cases, way_cases}

-- opening
pub blank_sound : Sound blank
unfolding blank
blank_sound = record {
  receive_sound = opening_side.opened_sound 0 0 0 (omega arith);
  send_sound = record { shift_most = omega arith; window_most = omega arith; outstanding_most = omega (arith, offset_self 0) };
  timer_sound = sound_new;
}

module _ (own : Setup) (clock : ℕ) where
  pub record_sound : (syn : Segment) → Sound (record_from own clock syn)
  unfolding record_from record_with
  record_sound syn = record {
    receive_sound = opening_side.opened_sound (moved_by syn.seq.0 1) own.window _ (omega arith);
    send_sound = send_side.opened_sound own.iss.0 _ (ack_fields_of syn) syn.flags.ack;
    timer_sound = sound_new;
  }

  pub opened_sound : (way : Way) (i : Incoming) → Sound (opened_under way own clock i).connection
  opened_sound way i = way_cases Sound blank_sound own clock way i (λ syn _. record_sound syn)

-- an operation on a sound record
module _ (k : Connection) (h : Sound k) where
  pub record_after_sound : (clock : ℕ) (s : Segment) → Sound (record_after k clock s)
  unfolding record_after
  record_after_sound clock s = record {
    receive_sound = receive_side.taken_sound k.receive s.seq.0 s.len h.receive_sound;
    send_sound = send_side.taken_sound k.send (ack_fields_of s) h.send_sound;
    timer_sound = sound_run (fed_by k clock s) k.timer h.timer_sound;
  }

  pub arrived_sound : (clock : ℕ) (i : Incoming) → Sound (arrived k clock i).connection
  arrived_sound clock i = arrived_cases Sound k h clock i (λ s _. record_after_sound clock s)

  pub sent_sound : (n : ℕ) → Sound (sent k n).connection
  unfolding sent
  sent_sound n = record {
    receive_sound = h.receive_sound;
    send_sound = send_side.sent_sound k.send n h.send_sound;
    timer_sound = h.timer_sound;
  }

  pub window_sound : (n : ℕ) → Sound (window_opened k n).connection
  unfolding window_opened
  window_sound n = record {
    receive_sound = opening_side.opened_window_sound k.receive n h.receive_sound;
    send_sound = h.send_sound;
    timer_sound = h.timer_sound;
  }

  pub expired_sound : Sound (expired k)
  unfolding expired
  expired_sound = record {
    receive_sound = h.receive_sound;
    send_sound = h.send_sound;
    timer_sound = sound_called k.timer expiry h.timer_sound;
  }

  pub acknowledged_sound : Sound (acknowledged k)
  unfolding acknowledged
  acknowledged_sound = record {
    receive_sound = receive_side.acknowledged_sound k.receive h.receive_sound;
    send_sound = h.send_sound;
    timer_sound = h.timer_sound;
  }
