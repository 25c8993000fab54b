-- Octets that the window does not let be sent are refused, and leave the send side; others move NXT. Assumes nothing.
use mathlib.Core.Bool.{true, false}
use mathlib.Core.Path.{◌≡◌}
use Prim.Native.Nat.{ℕ}
use Rattle.send.specs.Send.{exceeds_window, sent, with_sent}
use Rattle.send.specs.declared.Send.{Send}

module _ (s : Send) (n : ℕ) where
  pub sent_refusal_leaves : exceeds_window s n ≡ true → sent s n ≡ record { number = 12; send = s }
  unfolding sent
  sent_refusal_leaves e = rw e

  pub sent_moves : exceeds_window s n ≡ false → sent s n ≡ record { number = 0; send = with_sent s n }
  unfolding sent
  sent_moves e = rw e
