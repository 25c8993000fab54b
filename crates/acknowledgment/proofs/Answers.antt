-- What is answered, case by case, and what holds of every answer. Assumes nothing.
use mathlib.Core.Bool.{Bool, true, false, cond}
use mathlib.Core.List.{List}
use mathlib.Core.Logic.{◌↔◌}
use mathlib.Core.Path.{◌≡◌, refl, sym, ap, ◌∙◌}
use Prim.Native.Nat.{ℕ, ◌*◌, ◌/◌, ◌≤◌, ◌<◌}
use native.Mathlib.Omega.{arith}
use lib.Dec.{ltb}
use lib.ListN.{drop, length, take}
use borrow.Author.Tests.{le-ltb, lt-ltb, ltb-false, ltb-true}
use Rattle.octets.specs.Octets.{stored}
use Rattle.octets.proofs.Stores.{first_stored, later_stored, length_stored}
use Rattle.writer.specs.Writing.{writing}
use Rattle.writer.specs.declared.Ports.{Ports}
use Rattle.writer.specs.Writing as writer_specs
use Rattle.writer.proofs.Answers as writer
use Rattle.writer.proofs.Lengths.{length_options, length_written, units_most}
use Rattle.connection.specs.Calls.{acknowledgment, called}
use Rattle.connection.specs.Operations.{acknowledged}
use Rattle.connection.specs.declared.Connection.{Connection}
use Rattle.acknowledgment.specs.Acknowledgment.{Answer, acknowledging, answered_by, own_header, own_options, refused}
use Rattle.acknowledgment.specs.ReadBack.{own_octets}

both_fail : {A B : Type 0} → (A → ⊥) → (B → ⊥) → A ↔ B
both_fail f g = (λ a. absurd (f a), λ b. absurd (g b))

module _ (k : Connection) (ports : Ports) (clock : ℕ) (buffer : List ℕ) where
  abbrev since : ℕ
  since = k.timestamping.since

  abbrev octets : List ℕ
  octets = own_octets k ports clock

  abbrev a : Answer
  a = acknowledging k ports clock buffer

  abbrev pub wrote : Answer
  wrote = record { number = 0; length = length octets; buffer = stored octets buffer; connection = acknowledged k }

  -- the answer, by whether the clock is refused
  abbrev judged : Bool → Answer
  judged back = cond back (refused 8 buffer k) (answered_by k (writing (own_header k ports) (own_options k clock) buffer))

  on_time : since ≤ clock → a ≡ judged false
  unfolding acknowledging
  on_time on = ap judged (le-ltb clock since on)

  -- E8, E7, or neither
  pub clock_back_if : clock < since → a ≡ refused 8 buffer k
  unfolding acknowledging
  clock_back_if back = ap judged (lt-ltb clock since back)

  pub too_short_if : since ≤ clock → length buffer < length octets → a ≡ refused 7 buffer k
  too_short_if on short = on_time on ∙ ap (answered_by k) (writer.refuses_if (own_header k ports) (own_options k clock) buffer short)

  pub writes_if : since ≤ clock → length octets ≤ length buffer → a ≡ wrote
  writes_if on room = on_time on ∙ ap (answered_by k) (writer.writes_if (own_header k ports) (own_options k clock) buffer room)

  -- where the clock is not refused, as the writer answered
  pub by_writing : since ≤ clock → {w : writer_specs.Answer} → w ≡ writing (own_header k ports) (own_options k clock) buffer → answered_by k w ≡ a
  by_writing on e = ap (answered_by k) e ∙ sym (on_time on)

  by_cases : (P : Answer → Type 0) → (clock < since → P (refused 8 buffer k))
      → (since ≤ clock → length buffer < length octets → P (refused 7 buffer k)) → (since ≤ clock → length octets ≤ length buffer → P wrote) → P a
  by_cases P back short room = go (ltb clock since) refl (ltb (length buffer) (length octets)) refl
    where
      go : (s : Bool) → ltb clock since ≡ s → (t : Bool) → ltb (length buffer) (length octets) ≡ t → P a
      go true e t f = rw (clock_back_if (ltb-true _ _ e)) (back (ltb-true _ _ e))
      go false e true f = rw (too_short_if (ltb-false _ _ e) (ltb-true _ _ f)) (short (ltb-false _ _ e) (ltb-true _ _ f))
      go false e false f = rw (writes_if (ltb-false _ _ e) (ltb-false _ _ f)) (room (ltb-false _ _ e) (ltb-false _ _ f))

  -- Which number is given.
  pub clock_back_exactly : a.number ≡ 8 ↔ clock < since
  clock_back_exactly =
      by_cases (λ x. x.number ≡ 8 ↔ clock < since) (λ back. (λ _. back, λ _. refl))
      (λ on short. both_fail (λ e. omega arith) (λ b. omega arith))
      (λ on room. both_fail (λ e. omega arith) (λ b. omega arith))

  pub too_short_exactly : a.number ≡ 7 ↔ (since ≤ clock) × (length buffer < length octets)
  too_short_exactly =
      by_cases (λ x. x.number ≡ 7 ↔ (since ≤ clock) × (length buffer < length octets))
      (λ back. both_fail (λ e. omega arith) (λ b. omega arith))
      (λ on short. (λ _. (on, short), λ _. refl))
      (λ on room. both_fail (λ e. omega arith) (λ b. omega arith))

  pub written_exactly : a.number ≡ 0 ↔ (since ≤ clock) × (length octets ≤ length buffer)
  written_exactly =
      by_cases (λ x. x.number ≡ 0 ↔ (since ≤ clock) × (length octets ≤ length buffer))
      (λ back. both_fail (λ e. omega arith) (λ b. omega arith))
      (λ on short. both_fail (λ e. omega arith) (λ b. omega arith))
      (λ on room. (λ _. (on, room), λ _. refl))

  -- What a refusal leaves, and the record after an acknowledgment.
  pub refusal_leaves : (a.number ≡ 0 → ⊥) → a ≡ refused a.number buffer k
  refusal_leaves =
      by_cases (λ x. (x.number ≡ 0 → ⊥) → x ≡ refused x.number buffer k) (λ back e. refl) (λ on short e. refl) (λ on room e. absurd (e refl))

  -- an acknowledgment that is written is the call of that name
  pub is_call : a.number ≡ 0 → a.connection ≡ called k acknowledgment
  is_call =
      by_cases (λ x. x.number ≡ 0 → x.connection ≡ called k acknowledgment) (λ back e. absurd (omega arith))
      (λ on short e. absurd (omega arith)) (λ on room e. refl)

  -- Last.ACK.sent = RCV.NXT; nothing else in the record changes
  pub only_last_ack : a.number ≡ 0 → a.connection ≡ record {
    receive = record {
      nxt = k.receive.nxt;
      window = k.receive.window;
      shift = k.receive.shift;
      acked = k.receive.nxt;
      held = k.receive.held;
    };
    send = k.send;
    timestamping = k.timestamping;
    sack = k.sack;
    mss = k.mss;
    timer = k.timer;
  }
  unfolding acknowledged
  only_last_ack e = is_call e

  -- The buffer afterwards, and how much of it was written.
  pub octets_written : a.number ≡ 0 → take a.length a.buffer ≡ own_octets k ports clock
  octets_written =
      by_cases (λ x. x.number ≡ 0 → take x.length x.buffer ≡ octets) (λ back e. absurd (omega arith))
      (λ on short e. absurd (omega arith)) (λ on room e. first_stored octets buffer)

  pub later_octets_stay : drop a.length a.buffer ≡ drop a.length buffer
  later_octets_stay =
      by_cases (λ x. drop x.length x.buffer ≡ drop x.length buffer) (λ back. refl) (λ on short. refl)
      (λ on room. later_stored octets buffer)

  pub same_length : length a.buffer ≡ length buffer
  same_length =
      by_cases (λ x. length x.buffer ≡ length buffer) (λ back. refl) (λ on short. refl)
      (λ on room. length_stored octets buffer room)

  pub multiple_of_4 : (a.length ≡ 4 * (a.length / 4)) × (a.length ≤ 60)
  multiple_of_4 =
      let all = length_written (own_header k ports) (own_options k clock) in
      let options = length_options (own_options k clock) in
      let few = units_most (own_options k clock) in
      by_cases (λ x. (x.length ≡ 4 * (x.length / 4)) × (x.length ≤ 60)) (λ back. (refl, omega arith)) (λ on short. (refl, omega arith))
      (λ on room. (omega arith, omega arith))
