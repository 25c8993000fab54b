-- What octets sent, a new receive window, an expiry and a written acknowledgment change in a record, field by field, and that nothing else
-- changes; of any record, sound or not. Assumes nothing.
use mathlib.Core.Logic.{◌⊎◌}
use mathlib.Core.Path.{◌≡◌, refl, ap}
use Prim.Native.Nat.{ℕ, ◌+◌, ◌*◌, ◌^◌, ◌≤◌, ◌<◌}
use Rattle.receive.specs.Taking as taking
use Rattle.receive.specs.Window as receive
use Rattle.receive.specs.declared.Receive.{Receive}
use Rattle.receive.proofs.Edge.{Acknowledges, acknowledged_only}
use Rattle.receive.proofs.Opening as window
use Rattle.receive.proofs.Opening.{Widens}
use Rattle.rto.specs.Timer as rto
use Rattle.send.specs.Send as send
use Rattle.send.proofs.Laws as sending
use Rattle.send.proofs.Laws.{Notes}
use Rattle.connection.specs.declared.Connection.{Connection}
use Rattle.connection.specs.Operations.{CallAnswer, acknowledged, expired, sent, window_opened, with_receive, with_send}

-- what none of these calls changes
pub record RestStays (k after : Connection) : Type 0 where
  pub timestamping_stays : after.timestamping ≡ k.timestamping
  pub sack_stays : after.sack ≡ k.sack
  pub mss_stays : after.mss ≡ k.mss

-- all but the timer, all but the receive side, all but the send side
pub record OnlyTimer (k after : Connection) : Type 0 where
  pub receive_stays : after.receive ≡ k.receive
  pub send_stays : after.send ≡ k.send
  pub rest_stays : RestStays k after

pub record OnlyReceive (k after : Connection) : Type 0 where
  pub send_stays : after.send ≡ k.send
  pub timer_stays : after.timer ≡ k.timer
  pub rest_stays : RestStays k after

pub record OnlySend (k after : Connection) : Type 0 where
  pub receive_stays : after.receive ≡ k.receive
  pub timer_stays : after.timer ≡ k.timer
  pub rest_stays : RestStays k after

only_receive : (k : Connection) (r : Receive) → OnlyReceive k (with_receive k r)
only_receive k r =
    record { send_stays = refl; timer_stays = refl; rest_stays = record { timestamping_stays = refl; sack_stays = refl; mss_stays = refl } }

module _ (k : Connection) where
  -- an expiry changes only the timer
  pub expiry_changes : ((expired k).timer ≡ rto.expired k.timer) × OnlyTimer k (expired k)
  unfolding expired
  expiry_changes =
      (refl, record { receive_stays = refl; send_stays = refl; rest_stays = record { timestamping_stays = refl; sack_stays = refl; mss_stays = refl } })

  -- Last.ACK.sent = RCV.NXT, and nothing else in the record changes
  pub acknowledgment_changes : Acknowledges k.receive (acknowledged k).receive × OnlyReceive k (acknowledged k)
  unfolding acknowledged
  acknowledgment_changes = (acknowledged_only k.receive, only_receive k (taking.acknowledged k.receive))

  module _ (n : ℕ) where
    -- noting n octets adds n to SND.NXT, and changes nothing else, where (NXT - UNA) + n is at most SND.WND
    pub sent_changes : send.outstanding k.send + n ≤ k.send.window
        → ((sent k n).number ≡ 0) × Notes k.send n (sent k n).connection.send × OnlySend k (sent k n).connection
    unfolding sent
    sent_changes fits =
        let noted = sending.sent_noted k.send n fits in
        let rest : RestStays k (with_send k (send.sent k.send n).send) = record { timestamping_stays = refl; sack_stays = refl; mss_stays = refl } in
        (noted.0, noted.1, record { receive_stays = refl; timer_stays = refl; rest_stays = rest })

    -- and where it is above, E12, and the record stays
    pub sent_refused : k.send.window < send.outstanding k.send + n → sent k n ≡ record { number = 12; connection = k }
    unfolding sent
    sent_refused over = ap answered (sending.sent_refused k.send n over)
      where
        answered : send.Answer → CallAnswer
        answered a = record { number = a.number; connection = with_send k a.send }

    -- opening the window sets the receive window to the new one, and changes nothing else, where the new one is at least the present one and
    -- at most 65,535 x 2^rcv shift
    pub window_changes : k.receive.window ≤ n → n ≤ 65535 * 2 ^ k.receive.shift
        → ((window_opened k n).number ≡ 0) × Widens k.receive n (window_opened k n).connection.receive
        × OnlyReceive k (window_opened k n).connection
    unfolding window_opened
    window_changes least most =
        let set = window.window_set k.receive n least most in
        (set.0, set.1, only_receive k (receive.window_opened k.receive n).receive)

    -- and where it is below or above, E13, and the record stays
    pub window_refused : (n < k.receive.window) ⊎ (65535 * 2 ^ k.receive.shift < n) → window_opened k n ≡ record { number = 13; connection = k }
    unfolding window_opened
    window_refused outside = ap answered (window.window_refused k.receive n outside)
      where
        answered : receive.Answer → CallAnswer
        answered a = record { number = a.number; connection = with_receive k a.receive }
