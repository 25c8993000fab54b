-- Document 01's number, of 17 and 31 document 02's, what is done, and what is passed on of reading the options, for each case of the enums.
use Rattle.std.proofs.Math.Option.{Option, none}
use Rattle.std.specs.Prelude.{ℕ, Result, Ok, Err}
use Rattle.segment.specs.Reading.{fault_place, number_of}
use Rattle.connection.specs.declared.Arrival.{Arrival}
use Rattle.connection.specs.declared.ArriveRefusal.{ArriveRefusal}
use Rattle.connection.specs.declared.OpenRefusal.{OpenRefusal}
use Rattle.connection.specs.declared.ProfileRefusal.{ProfileRefusal}
use Rattle.connection.specs.declared.Reason.{Reason}
use Rattle.connection.specs.declared.Verdict.{Verdict}

abbrev pub open_refusal_number : OpenRefusal → ℕ
open_refusal_number OpenRefusal.ExceededLimits = 9
open_refusal_number (OpenRefusal.Segment why) = number_of why
open_refusal_number OpenRefusal.NotSyn = 10
open_refusal_number OpenRefusal.WrongAck = 11

-- the place of the option at fault
abbrev pub open_refusal_place : OpenRefusal → Option ℕ
open_refusal_place OpenRefusal.ExceededLimits = none
open_refusal_place (OpenRefusal.Segment why) = fault_place why
open_refusal_place OpenRefusal.NotSyn = none
open_refusal_place OpenRefusal.WrongAck = none

abbrev pub profile_refusal_number : ProfileRefusal → ℕ
profile_refusal_number (ProfileRefusal.Opening why) = open_refusal_number why
profile_refusal_number (ProfileRefusal.Lacking lack) = 17

abbrev pub reason_number : Reason → ℕ
reason_number Reason.TimestampMissing = 21
reason_number Reason.TimestampOld = 22
reason_number Reason.ResetOutside = 23
reason_number Reason.Outside = 24
reason_number Reason.ResetInside = 26
reason_number Reason.SynInside = 27
reason_number Reason.AckMissing = 28
reason_number Reason.AckUnsent = 29
reason_number Reason.AckTooOld = 31
reason_number Reason.NoRoom = 30

-- what document 01's table answers, and what E1 to E6 and E8 do
pub data Action : Type 0 where
  take reset drop_silent drop_with_ack refuse : Action

-- a number with its action
pub record Decision : Type 0 where
  pub number : ℕ
  pub action : Action

abbrev pub verdict_of : Verdict → Decision
verdict_of Verdict.Take = record { number = 0; action = take }
verdict_of Verdict.Reset = record { number = 25; action = reset }
verdict_of (Verdict.Silent why) = record { number = reason_number why; action = drop_silent }
verdict_of (Verdict.WithAck why) = record { number = reason_number why; action = drop_with_ack }

abbrev pub arrive_refusal_number : ArriveRefusal → ℕ
arrive_refusal_number (ArriveRefusal.Segment why) = number_of why
arrive_refusal_number ArriveRefusal.ClockBack = 8

-- of an answer: the verdict's number, or the refusal's
abbrev pub arrival_number : Result Arrival ArriveRefusal → ℕ
arrival_number (Ok arrival) = (verdict_of arrival.verdict).number
arrival_number (Err why) = arrive_refusal_number why

abbrev pub arrive_refusal_place : ArriveRefusal → Option ℕ
arrive_refusal_place (ArriveRefusal.Segment why) = fault_place why
arrive_refusal_place ArriveRefusal.ClockBack = none
