-- The other operations on a record: document 01's E12, E13, expiry, and what a written acknowledgment does to the record.
use Rattle.std.specs.Prelude.{ℕ, Result, Ok, Err}
use Rattle.receive.specs.Taking as taking
use Rattle.receive.specs.Window as receive
use Rattle.receive.specs.declared.Receive.{Receive}
use Rattle.receive.specs.declared.WindowRefused.{WindowRefused}
use Rattle.rto.specs.Timer as rto
use Rattle.rto.specs.declared.Timer.{Timer}
use Rattle.send.specs.Send as send
use Rattle.send.specs.declared.Send.{Send}
use Rattle.send.specs.declared.SentRefused.{SentRefused}
use Rattle.connection.specs.declared.Connection.{Connection}

-- the answer to octets noted as sent and to a new receive window, in document 01's terms: 0 or the refusal's number, and the record
-- afterwards
pub record CallAnswer : Type 0 where
  pub number : ℕ
  pub connection : Connection

-- one part changed, and nothing else
abbrev pub with_receive : Connection → Receive → Connection
with_receive k r = record {
  receive = r;
  send = k.send;
  timestamping = k.timestamping;
  sack = k.sack;
  mss = k.mss;
  timer = k.timer;
}

abbrev pub with_send : Connection → Send → Connection
with_send k s = record {
  receive = k.receive;
  send = s;
  timestamping = k.timestamping;
  sack = k.sack;
  mss = k.mss;
  timer = k.timer;
}

abbrev pub with_timer : Connection → Timer → Connection
with_timer k t = record {
  receive = k.receive;
  send = k.send;
  timestamping = k.timestamping;
  sack = k.sack;
  mss = k.mss;
  timer = t;
}

-- noting n sent octets, or E12
unfoldable pub sent : Connection → ℕ → CallAnswer
sent k n = record { number = (send.sent k.send n).number; connection = with_send k (send.sent k.send n).send }

abbrev pub shown_sent : Connection → Result Connection SentRefused → CallAnswer
shown_sent k (Ok after) = record { number = 0; connection = after }
shown_sent k (Err why) = record { number = send.number_of why; connection = k }

-- opening the receive window, or E13
unfoldable pub window_opened : Connection → ℕ → CallAnswer
window_opened k window = record {
  number = (receive.window_opened k.receive window).number;
  connection = with_receive k (receive.window_opened k.receive window).receive;
}

abbrev pub shown_window : Connection → Result Connection WindowRefused → CallAnswer
shown_window k (Ok after) = record { number = 0; connection = after }
shown_window k (Err why) = record { number = receive.number_of why; connection = k }

-- an expiry changes only the timer
unfoldable pub expired : Connection → Connection
expired k = with_timer k (rto.expired k.timer)

-- an acknowledgment written: Last.ACK.sent = RCV.NXT, and nothing else in the record changes
unfoldable pub acknowledged : Connection → Connection
acknowledged k = with_receive k (taking.acknowledged k.receive)
