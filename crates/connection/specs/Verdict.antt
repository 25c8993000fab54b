-- The verdict on an arriving segment (document 01, "Verdicts, in this order"; of row 31 document 02, P5).
use Rattle.std.specs.Prelude.{Bool, true, false, cond, not, ◌&&◌, List, [], ◌∷◌, ℕ, eqb}
use Rattle.receive.specs.Window.{acceptable, lacks_room}
use Rattle.segment.specs.declared.Segment.{Segment}
use Rattle.send.specs.Send.{is_too_old, is_unsent}
use Rattle.timestamps.specs.Timestamps.{is_missing, is_old}
use Rattle.connection.specs.declared.Connection.{Connection}
use Rattle.connection.specs.Numbers.{Action, Decision, drop_silent, drop_with_ack, reset, take}
use Rattle.connection.specs.Opening.{tsval_of}

-- the rows of timestamps look at TSval and RST
abbrev pub lacks_timestamp : Connection → Segment → Bool
lacks_timestamp k s = is_missing k.timestamping (tsval_of s.options.timestamps) s.flags.rst

abbrev pub has_old_timestamp : Connection → ℕ → Segment → Bool
has_old_timestamp k clock s = is_old k.timestamping clock (tsval_of s.options.timestamps) s.flags.rst

abbrev pub is_acceptable : Connection → Segment → Bool
is_acceptable k s = acceptable k.receive s.seq.0 s.len

-- a row of the table
pub record Row : Type 0 where
  pub number : ℕ
  pub holds : Bool
  pub action : Action

abbrev pub row : ℕ → Bool → Action → Row
row number holds action = record { number = number; holds = holds; action = action }

unfoldable pub rows : Connection → ℕ → Segment → List Row
rows k clock s =
    row 21 (lacks_timestamp k s) drop_silent
    ∷ row 22 (has_old_timestamp k clock s) drop_with_ack
    ∷ row 23 (not (is_acceptable k s) && s.flags.rst) drop_silent
    ∷ row 24 (not (is_acceptable k s) && not s.flags.rst) drop_with_ack
    ∷ row 25 (s.flags.rst && eqb s.seq.0 k.receive.nxt.0) reset
    ∷ row 26 s.flags.rst drop_with_ack
    ∷ row 27 s.flags.syn drop_with_ack
    ∷ row 28 (not s.flags.ack) drop_silent
    ∷ row 29 (is_unsent k.send s.ack.0) drop_with_ack
    ∷ row 31 (is_too_old k.send s.ack.0) drop_with_ack
    ∷ row 30 (lacks_room k.receive s.seq.0 s.len) drop_with_ack
    ∷ []

-- the first row whose condition holds decides; otherwise take
abbrev pub decided : List Row → Decision
decided [] = record { number = 0; action = take }
decided (r ∷ rs) = cond r.holds (record { number = r.number; action = r.action }) (decided rs)

-- Whether number n is to be given: row n's condition holds and no earlier one does. Number 0 is given where no condition holds.
abbrev pub none_holds : List Row → Bool
none_holds [] = true
none_holds (r ∷ rs) = not r.holds && none_holds rs

abbrev pub first_holds : ℕ → List Row → Bool
first_holds n [] = false
first_holds n (r ∷ rs) = cond (eqb r.number n) r.holds (not r.holds && first_holds n rs)

abbrev pub is_given : ℕ → List Row → Bool
is_given n table = cond (eqb n 0) (none_holds table) (first_holds n table)
