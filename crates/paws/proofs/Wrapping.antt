-- The premises can be met, and the claim says something: in the worked case RCV.NXT wraps to where it began, and the first segment, which
-- arrives once more, is dropped by its stamp alone. Assumes nothing.
use Rattle.std.specs.Prelude.{None}
use mathlib.Core.Bool.{true}
use mathlib.Core.List.Memᴰ
use mathlib.Core.List.{List, [], ◌∷◌, ◌++◌}
use mathlib.Core.Option.{Option-elim}
use mathlib.Core.Path.{◌≡◌, refl, sym, ap}
use Prim.Native.Nat.{ℕ, zero, suc, ◌+◌, ◌^◌, ◌≤◌, ◌<◌}
use native.Mathlib.Nat.{add-zero}
use native.Mathlib.Omega.{arith}
use Rattle.serial.specs.Serial.{distance_of, offset_of}
use Rattle.octets.specs.Octets.{big_endian, number_at}
use Rattle.offers.specs.Offers.{exceed_limits, in_force, shifts_in_force}
use Rattle.timestamps.specs.Timestamps as timestamps
use Rattle.timestamps.specs.Timestamps.{outdated}
use Rattle.receive.specs.Ranges.{held_of}
use Rattle.receive.specs.Window as receive
use Rattle.receive.specs.declared.Receive.{Receive}
use Rattle.segment.specs.Grammar.{is_broken, padding, padding_rule}
use Rattle.segment.specs.Options as options
use Rattle.segment.specs.Reading.{options_read, reading, segment_of}
use Rattle.send.specs.Send as send
use Rattle.connection.specs.Arriving.{arriving_read, judged, settled}
use Rattle.connection.specs.Calls.{acknowledgment, arrived, opened_by, plain, unread, window}
use Rattle.connection.specs.Cases as cases
use Rattle.connection.specs.Opening.{is_not_syn, is_wrong_ack, opening, opening_from, record_from, record_with}
use Rattle.connection.specs.Verdict.{is_acceptable, rows}
use Rattle.connection.specs.declared.Connection.{Connection}
use Rattle.connection.proofs.Incoming.{arrived_by_fields}
use Rattle.paws.specs.Claim.{EachInPlace, NoWrappedOctet}
use Rattle.paws.specs.History.{Brings}
use Rattle.paws.specs.Premises.{Allowed, AllowedStep}
use Rattle.paws.specs.Runs.{Opening, Run, Step, Throughout, arrives, opened, other, ran}
use Rattle.paws.specs.Segments.{fields, as_fields, octets, as_octets, own}
use Rattle.paws.specs.Wrapping.{history, piece, syn}
use Rattle.paws.proofs.Steps.{then}
use Rattle.paws.proofs.Theorem.{no_wrapped_octet}
use Rattle.paws.proofs.WrappingHistory.{piece_in, wrapping_peer}
use Rattle.paws.proofs.WrappingOctets.{octets_read, syn_read}
use Rattle.paws.proofs.WrappingRounds.{State, after_acknowledgment, after_arrival, after_window, round_allowed}

-- the opening
abbrev syn_octets : List ℕ
syn_octets = octets true 4999 50 0

opens : ((opened_by (own None) 100 (unread syn_octets)).number ≡ 0) × ((opened_by (own None) 100 (unread syn_octets)).connection ≡ cases.base)
unfolding distance_of offset_of big_endian number_at Option-elim
    is_broken padding padding_rule options.fault_at options.fault_in options.is_repeated options.is_wrong_length options.lengths_of
    options.option_in options.options_of options.stands_in options_read reading segment_of exceed_limits in_force shifts_in_force
    held_of receive.opened send.opened timestamps.opened is_not_syn is_wrong_ack opening opening_from record_from record_with
opens = (refl, refl)

pub wrapping_opening : Opening history
unfolding history
wrapping_opening = record {
  way = plain;
  own = own None;
  clock = 100;
  segment = unread syn_octets;
  opens = opens.0;
  active = ap (λ (k : Connection). k.timestamping.active) opens.1;
  syn =
      record {
        sent = syn;
        in_history = Memᴰ.head refl;
        fields = fields true None 4999 50 0;
        reads = syn_read;
        seq = refl;
        len = refl;
        echoed = record { 0 = 0 };
        stamp = refl;
      };
}

abbrev pub start : Run
start = opened wrapping_opening

at_start : State 65535 0 0 0 start
unfolding wrapping_opening history
at_start = record {
  side_is = ap (λ (k : Connection). k.receive) opens.1;
  stamps_are = ap (λ (k : Connection). k.timestamping) opens.1;
  una_is = ap (λ (k : Connection). k.send.una) opens.1;
  sent_is = ap (λ (k : Connection). k.send.nxt) opens.1;
  nxt_is = refl;
  recent_is = refl;
  edge_least = omega arith;
}

-- the rounds
pub brings : (n : ℕ) → n < 2 ^ 17 → Brings history (unread (as_octets (piece n)))
unfolding history as_fields
brings n below = record {
  sent = piece n;
  in_history = Memᴰ.tail (piece_in 0 (2 ^ 17) n (omega arith) (omega arith));
  fields = as_fields (piece n);
  reads = octets_read (piece n) (omega arith);
  seq = refl;
  len = omega arith;
  echoed = record { 0 = 0 };
  stamp = refl;
}

unfoldable pub arriving : (n : ℕ) → n < 2 ^ 17 → Step history
arriving n below = arrives 100 (unread (as_octets (piece n))) (brings n below)

-- n rounds, from segment j on
unfoldable pub rounds : (j n : ℕ) → j + n ≤ 2 ^ 17 → List (Step history)
rounds j zero most = []
rounds j (suc n) most =
    arriving j (omega arith)
    ∷ other (window 65535) tt
    ∷ other acknowledgment tt
    ∷ rounds (suc j) n (omega arith)

-- what holds after them, and that the premises allow them
record Rounds (j n : ℕ) (most : j + n ≤ 2 ^ 17) (r : Run) : Type 0 where
  allowed : Throughout AllowedStep r (rounds j n most)
  state : State 65535 (j + n) (j + n) (j + n) (ran r (rounds j n most))

run_rounds : (j n : ℕ) (most : j + n ≤ 2 ^ 17) (r : Run) → State 65535 j j j r → Rounds j n most r
unfolding rounds arriving brings
run_rounds j zero most r at = record { allowed = tt; state = rw add-zero at }
run_rounds j (suc n) most r at =
    let below : j < 2 ^ 17 = omega arith in
    let first = after_arrival j r at (unread (as_octets (piece j))) (brings j below) refl refl in
    let second = after_window j _ first in
    let third = after_acknowledgment j _ second in
    let later = run_rounds (suc j) n (omega arith) _ third in
    let same : j + suc n ≡ suc j + n = omega arith in
    record { allowed = (round_allowed j r at, (tt, (tt, later.allowed))); state = rw same later.state }

-- The first segment comes once more, after 2^32 octets. Its SEQ is RCV.NXT again, so that the window test passes it; verdict 22 drops it.
pub record Wraps (r : Run) : Type 0 where
  pub far : r.nxt ≡ (piece 0).start + 2 ^ 32
  pub at_next : (as_fields (piece 0)).seq.0 ≡ r.now.receive.nxt.0
  pub accepted : is_acceptable r.now (as_fields (piece 0)) ≡ true
  pub allowed : Allowed r 100 (piece 0)
  pub dropped : (arrived r.now 100 (unread (as_octets (piece 0)))).decision.number ≡ 22

wraps : (r : Run) → State 65535 (2 ^ 17) (2 ^ 17) (2 ^ 17) r → Wraps r
unfolding as_fields distance_of offset_of outdated receive.acceptable arriving_read judged settled rows timestamps.is_missing timestamps.is_old
    timestamps.value_before
wraps r at = record {
  far = at.nxt_is;
  at_next = ap (λ (t : Receive). t.nxt.0) (sym at.side_is);
  accepted = rw at.side_is;
  allowed =
      record {
        within_edge = λ m has. omega (arith, at.edge_least);
        not_ahead = omega (arith, at.recent_is);
        not_behind = omega (arith, at.recent_is);
        not_outdated = rw at.stamps_are;
      };
  dropped =
      rw (
        arrived_by_fields r.now 100 (unread (as_octets (piece 0))) (as_fields (piece 0)) (octets_read (piece 0) (omega arith)),
        at.stamps_are,
      );
}

-- all rounds
abbrev pub all : List (Step history)
all = rounds 0 (2 ^ 17) (omega arith)

run_all : Rounds 0 (2 ^ 17) (omega arith) start
run_all = run_rounds 0 (2 ^ 17) (omega arith) start at_start

pub wrapping_wraps : Wraps (ran start all)
wrapping_wraps = wraps (ran start all) run_all.state

-- and the first segment after them: the premises of the claim hold, and so does the claim
abbrev pub worked : List (Step history)
worked = all ++ (arriving 0 (omega arith) ∷ [])

pub wrapping_allowed : Throughout AllowedStep start worked
unfolding arriving brings
wrapping_allowed = then AllowedStep all (arriving 0 (omega arith) ∷ []) start run_all.allowed (wrapping_wraps.allowed, tt)

pub wrapping_in_place : Throughout EachInPlace start worked
unfolding NoWrappedOctet wrapping_opening
wrapping_in_place = no_wrapped_octet history wrapping_peer wrapping_opening tt worked wrapping_allowed
