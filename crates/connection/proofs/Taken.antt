-- What a take gives, part by part, and which sample it feeds to the timer (document 01, "What taking does", and document 02, P4), of octets and
-- of fields read before. Assumes nothing.
use mathlib.Core.Bool.{true, false, cond, ◌&&◌, ◌||◌, and-false, false≢true}
use mathlib.Core.List.{List, [], ◌∷◌}
use mathlib.Core.Logic.{◌⊎◌, inl, inr}
use mathlib.Core.Option.{some, Option-elim}
use mathlib.Core.Path.{◌≡◌, refl, sym, ap, subst, ◌∙◌}
use Prim.Native.Nat.{ℕ, ◌≤◌, ◌<◌}
use lib.Dec.{leb}
use borrow.Author.Tests.{le-leb, lt-leb}
use Rattle.std.specs.Prelude.{None, Some}
use Rattle.laws.specs.Lists.{filter}
use Rattle.laws.proofs.Choices.{either}
use Rattle.serial.specs.Serial.{offset_of, round_trip, stamp_at}
use Rattle.serial.specs.declared.Stamp.{Stamp}
use Rattle.receive.specs.Coverage.{is_received}
use Rattle.receive.specs.Ranges.{lies_in}
use Rattle.receive.specs.Taking as receive
use Rattle.receive.specs.Window.{fin_inside, lacks_room, new_part}
use Rattle.receive.proofs.Coverage.{received_exactly}
use Rattle.rto.specs.Calls as rto
use Rattle.rto.specs.Timer.{is_accepted, sampled_by}
use Rattle.rto.proofs.Refusal.{accepted_moves, refusal_leaves}
use Rattle.segment.specs.SackBlocks.{held}
use Rattle.segment.specs.declared.Segment.{Segment}
use Rattle.send.specs.Send as send
use Rattle.timestamps.specs.Timestamps as timestamps
use Rattle.connection.specs.declared.Connection.{Connection}
use Rattle.connection.specs.Numbers.{take}
use Rattle.connection.specs.Record.{Sound}
use Rattle.connection.specs.Opening.{tsval_of}
use Rattle.connection.specs.Verdict.{rows}
use Rattle.connection.specs.Taking.{expected_samples, fed_by, listed, record_after, sample_of}
use Rattle.connection.specs.Arriving.{Arrival, arriving_read, is_take, taken_by}
use Rattle.connection.specs.Calls.{Incoming, arrival, arrived, fields_of, read, timer_call, unread}
use Rattle.connection.proofs.Incoming.{arrived_by_fields}
use Rattle.connection.proofs.Samples.{record_accepts}
use Rattle.connection.proofs.OnlyTake.{only_take, only_take_read}
use Rattle.connection.proofs.Table.{arriving_cases}

-- each part of the record as its own rules have it; Last.ACK.sent is its value before the segment, and the peer's SACK blocks are judged by
-- the values after the take
pub record Takes (k : Connection) (clock : ℕ) (s : Segment) (a : Arrival) : Type 0 where
  pub decision_is : a.decision ≡ record { number = 0; action = take }
  pub part_is : a.part ≡ new_part k.receive s.seq.0 s.len
  pub fin_is : a.fin ≡ fin_inside k.receive s.seq.0 s.len s.flags.fin
  pub blocks_are : a.blocks ≡ cond k.sack (filter (send.is_listed a.connection.send) (held s.options.blocks)) []
  pub receive_is : a.connection.receive ≡ receive.taken k.receive a.part
  pub send_is : a.connection.send ≡ send.taken k.send (record { seq = s.seq; ack = s.ack; window = s.window })
  pub timestamping_is : a.connection.timestamping
      ≡ timestamps.taken k.timestamping clock k.receive.acked.0 s.seq.0 (tsval_of s.options.timestamps)
  pub sack_stays : a.connection.sack ≡ k.sack
  pub mss_stays : a.connection.mss ≡ k.mss

-- R = (our timestamp - TSecr) mod 2^32, and N by the octets outstanding before the ACK, (NXT - UNA) mod 2^32, and the record's MSS
abbrev pub round_trip_in : Connection → ℕ → Stamp → ℕ
round_trip_in k clock echoed = round_trip (stamp_at clock k.timestamping.offset) echoed.0

abbrev pub expected_before : Connection → ℕ
expected_before k = expected_samples (offset_of k.send.una.0 k.send.nxt.0) k.mss

-- what a take feeds to the timer: the sample R with its N, or nothing
module _ (k : Connection) (clock : ℕ) (s : Segment) where
  feeds_one : (value echoed : Stamp) → k.timestamping.active ≡ true → s.options.timestamps ≡ Some (record { value = value; echoed = echoed })
      → send.is_new k.send s.ack.0 ≡ true
      → fed_by k clock s ≡ rto.sample (round_trip_in k clock echoed) (expected_before k) ∷ []
  unfolding fed_by sample_of
  feeds_one value echoed active stamps new = rw (active, new, stamps) refl

  feeds_none : (k.timestamping.active ≡ false) ⊎ ((s.options.timestamps ≡ None) ⊎ (send.is_new k.send s.ack.0 ≡ false))
      → fed_by k clock s ≡ []
  unfolding fed_by sample_of
  feeds_none (inl off) = rw off refl
  feeds_none (inr (inl none_here)) =
      rw none_here
      (either (λ (l : List rto.Call). l ≡ []) (k.timestamping.active && send.is_new k.send s.ack.0) [] [] (λ _. refl) (λ _. refl))
  feeds_none (inr (inr old)) = rw (old, and-false k.timestamping.active) refl

module _ (k : Connection) (clock : ℕ) (i : Incoming) (s : Segment) (is : fields_of i ≡ some s)
    (takes : is_take (arrived k clock i).decision.action ≡ true) where
  taken_as : arrived k clock i ≡ taken_by k clock s
  taken_as =
      by ∙ arriving_cases k clock s Taken (λ _ t. refl) (λ d place skipped drops t. absurd (false≢true (sym drops ∙ t)))
      (sym (ap (λ (a : Arrival). is_take a.decision.action) by) ∙ takes)
    where
      by : arrived k clock i ≡ arriving_read k clock s
      by = arrived_by_fields k clock i s is

      Taken : Arrival → Type 0
      Taken a = is_take a.decision.action ≡ true → a ≡ taken_by k clock s

  pub take_gives : Takes k clock s (arrived k clock i)
  unfolding taken_by record_after listed
  take_gives =
      let gives : Takes k clock s (taken_by k clock s) =
      record {
        decision_is = refl;
        part_is = refl;
        fin_is = refl;
        blocks_are = refl;
        receive_is = refl;
        send_is = refl;
        timestamping_is = refl;
        sack_stays = refl;
        mss_stays = refl;
      } in
      subst (Takes k clock s) (sym taken_as) gives

  timer_after : (arrived k clock i).connection.timer ≡ rto.run k.timer (fed_by k clock s)
  unfolding taken_by record_after
  timer_after = ap (λ (a : Arrival). a.connection.timer) taken_as

  -- a number is received after the take exactly if it was before or lies in the new part
  room : lacks_room k.receive s.seq.0 s.len ≡ false
  unfolding rows
  room =
      arriving_cases k clock s Roomy (λ clear _. clear 30) (λ d place skipped drops t. absurd (false≢true (sym drops ∙ t)))
      (sym (ap (λ (a : Arrival). is_take a.decision.action) (arrived_by_fields k clock i s is)) ∙ takes)
    where
      Roomy : Arrival → Type 0
      Roomy a = is_take a.decision.action ≡ true → lacks_room k.receive s.seq.0 s.len ≡ false

  pub take_receives : Sound k → (x : ℕ) → let nxt = k.receive.nxt.0 in
      is_received nxt (arrived k clock i).connection.receive x
      ≡ is_received nxt k.receive x || lies_in (arrived k clock i).part (offset_of nxt x)
  unfolding taken_by record_after
  take_receives sound x =
      let nxt = k.receive.nxt.0 in
      ap (λ (a : Arrival). is_received nxt a.connection.receive x) taken_as
      ∙ (received_exactly k.receive sound.receive_sound s.seq.0 s.len room x
      ∙ ap (λ (a : Arrival). is_received nxt k.receive x || lies_in a.part (offset_of nxt x)) (sym taken_as))

  -- a new ACK with timestamps in force gives a sample, which is fed to the timer
  module _ (value echoed : Stamp) (active : k.timestamping.active ≡ true) (stamps : s.options.timestamps ≡ Some (record { value = value; echoed = echoed }))
      (new : send.is_new k.send s.ack.0 ≡ true) where
    -- as one call in the list of calls on the timer
    pub sample_called : timer_call k (arrival clock i) ≡ rto.sample (round_trip_in k clock echoed) (expected_before k) ∷ []
    unfolding Option-elim
    sample_called = rw (takes, is) (feeds_one k clock s value echoed active stamps new)

    pub sample_fed : (arrived k clock i).connection.timer
        ≡ rto.called k.timer (rto.sample (round_trip_in k clock echoed) (expected_before k))
    sample_fed = timer_after ∙ ap (rto.run k.timer) (feeds_one k clock s value echoed active stamps new)

    accepts : is_accepted (round_trip_in k clock echoed) (expected_before k) ≡ leb (round_trip_in k clock echoed) 600000
    accepts = record_accepts (offset_of k.send.una.0 k.send.nxt.0) k.mss (round_trip_in k clock echoed)

    -- above 600,000 it is left out, and no other is
    pub sample_counts : round_trip_in k clock echoed ≤ 600000
        → (arrived k clock i).connection.timer ≡ sampled_by k.timer (round_trip_in k clock echoed) (expected_before k)
    sample_counts most =
        sample_fed ∙ accepted_moves k.timer (round_trip_in k clock echoed) (expected_before k) (accepts ∙ le-leb _ 600000 most)

    pub sample_left_out : 600000 < round_trip_in k clock echoed → (arrived k clock i).connection.timer ≡ k.timer
    sample_left_out above =
        sample_fed ∙ refusal_leaves k.timer (round_trip_in k clock echoed) (expected_before k) (accepts ∙ lt-leb _ 600000 above)

  -- where one of the three is missing the timer stays
  pub sample_not_fed :
      (k.timestamping.active ≡ false) ⊎ ((s.options.timestamps ≡ None) ⊎ (send.is_new k.send s.ack.0 ≡ false))
      → (arrived k clock i).connection.timer ≡ k.timer
  sample_not_fed missing = timer_after ∙ ap (rto.run k.timer) (feeds_none k clock s missing)

-- a segment that is not taken leaves the whole record, so its timer too
pub not_taken_stays : (k : Connection) (clock : ℕ) (i : Incoming) → is_take (arrived k clock i).decision.action ≡ false
    → (arrived k clock i).connection ≡ k
not_taken_stays k clock (unread octets) drops = ap (λ (a : Arrival). a.connection) (only_take k clock octets drops)
not_taken_stays k clock (read s) drops = ap (λ (a : Arrival). a.connection) (only_take_read k clock s drops)
