-- What holds of every send side that the operations give back.
use Rattle.std.specs.Prelude.{max, ◌≤◌}
use Rattle.send.specs.Send.{outstanding}
use Rattle.send.specs.declared.Send.{Send}

pub record Sound (s : Send) : Type 0 where
  pub shift_most : s.shift ≤ 14
  pub window_most : s.window ≤ s.largest
  pub outstanding_most : outstanding s ≤ max 1 s.largest
