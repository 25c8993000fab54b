-- The blank record, which a refused opening gives back, and what holds of every record that the operations give back.
use Rattle.std.specs.Prelude.{false}
use Rattle.serial.specs.declared.Seq.{Seq}
use Rattle.receive.specs.Sound as receive
use Rattle.receive.specs.Window.{opened}
use Rattle.rto.specs.Timer as rto
use Rattle.send.specs.Sound as send
use Rattle.connection.specs.declared.Connection.{Connection}

abbrev zero : Seq
zero = record { 0 = 0 }

unfoldable pub blank : Connection
blank = record {
  receive = opened 0 0 0;
  send = record { una = zero; nxt = zero; window = 0; largest = 0; shift = 0; wl1 = zero; wl2 = zero };
  timestamping = record { active = false; recent = record { 0 = 0 }; since = 0; offset = 0 };
  sack = false;
  mss = 0;
  timer = rto.new_timer;
}

pub record Sound (k : Connection) : Type 0 where
  pub receive_sound : receive.Sound k.receive
  pub send_sound : send.Sound k.send
  pub timer_sound : rto.Sound k.timer
