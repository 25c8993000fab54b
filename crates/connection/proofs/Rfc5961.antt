-- The ACKs that rows 29 and 31 leave: the range of RFC 5961 (document 02, P5), in every record that calls reach from an opening, where what
-- comes in are octets or fields with a window of 16 bits, as all values of the code are. Assumes nothing.
use mathlib.Core.Bool.{true, false}
use mathlib.Core.List.{List, []}
use mathlib.Core.Logic.{◌↔◌}
use mathlib.Core.Option.{some, some-injective}
use mathlib.Core.Path.{◌≡◌, ap, subst}
use Prim.Native.Nat.{ℕ, ◌%◌, ◌^◌, ◌≤◌}
use native.Mathlib.Omega.{arith}
use Rattle.laws.specs.Lists.{Each}
use Rattle.laws.specs.Lists.Each.{none, more}
use Rattle.serial.specs.Serial.{moved_by, offset_of}
use Rattle.octets.specs.Octets.{Octets}
use Rattle.octets.proofs.OctetsBack.{number_below}
use Rattle.segment.specs.Reading.{segment_of}
use Rattle.segment.specs.declared.Segment.{Segment}
use Rattle.segment.proofs.Readable.{fields_are}
use Rattle.segment.proofs.Refused.{read_whole}
use Rattle.send.specs.Send as send
use Rattle.send.proofs.AckRange.{half_way_too_old, range_exactly}
use Rattle.send.proofs.Largest.{Most, sent_most, taken_most}
use Rattle.connection.specs.declared.Connection.{Connection}
use Rattle.connection.specs.Record.{Sound, blank}
use Rattle.connection.specs.Opening.{ack_fields_of, record_from, record_with}
use Rattle.connection.specs.Verdict.{rows}
use Rattle.connection.specs.Taking.{record_after}
use Rattle.connection.specs.Operations.{acknowledged, expired, sent, window_opened}
use Rattle.connection.specs.Calls.{Call, Incoming, Opened, acknowledgment, arrival, called, expiry, fields_of, read, run, sending, unread, window}
use Rattle.connection.proofs.Incoming.{arrived_cases, opened_holds}
use Rattle.connection.proofs.Runs.{called_sound, sound_always}
use Rattle.connection.proofs.Table.{condition}

-- octets, or a window field of 16 bits
abbrev pub Narrow : Incoming → Type 0
Narrow (unread octets) = Octets octets
Narrow (read s) = s.window ≤ 65535

abbrev pub NarrowCall : Call → Type 0
NarrowCall (arrival clock i) = Narrow i
NarrowCall (sending n) = Unit {0}
NarrowCall (window n) = Unit {0}
NarrowCall expiry = Unit {0}
NarrowCall acknowledgment = Unit {0}

-- any octets, and any such field, are
pub narrow_any : ((octets : List ℕ) → Octets octets → Narrow (unread octets)) × ((s : Segment) → s.window ≤ 65535 → Narrow (read s))
narrow_any = (λ octets h. h, λ s h. h)

field_most : (i : Incoming) → Narrow i → (s : Segment) → fields_of i ≡ some s → s.window ≤ 65535
unfolding segment_of
field_most (unread octets) narrow s is =
    let field = ap (λ (w : Segment). w.window) (fields_are octets s (read_whole octets s is)) in
    omega (arith, field, number_below narrow 2 14)
field_most (read w) narrow s is = subst (λ (x : Segment). x.window ≤ 65535) (some-injective w s is) narrow

-- so that the largest SND.WND is M4's at most
called_most : (k : Connection) → Sound k → (c : Call) → NarrowCall c → Most k.send → Most (called k c).send
unfolding record_after sent window_opened expired acknowledged
called_most k h (arrival clock i) narrow most =
    arrived_cases (λ (r : Connection). Most r.send) k most clock i
    (λ s is. taken_most k.send h.send_sound (ack_fields_of s) (field_most i narrow s is) most)
called_most k h (sending n) narrow most = sent_most k.send n most
called_most k h (window n) narrow most = most
called_most k h expiry narrow most = most
called_most k h acknowledgment narrow most = most

run_most : (k : Connection) → Sound k → {calls : List Call} → Each NarrowCall calls → Most k.send → Most (run k calls).send
run_most k h none most = most
run_most k h (more {x = c} narrow later) most = run_most (called k c) (called_sound k c h) later (called_most k h c narrow most)

-- any calls from an opening
module _ (k : Connection) (o : Opened k) (narrow_syn : Narrow o.syn) (calls : List Call) (narrow : Each NarrowCall calls) where
  opened_most : Most k.send
  unfolding record_from record_with blank send.opened
  opened_most =
      opened_holds (λ (r : Connection). Most r.send) (omega arith) k o (λ syn is. omega (arith, field_most o.syn narrow_syn syn is))

  pub largest_most : Most (run k calls).send
  largest_most = run_most k (sound_always k o []) narrow opened_most

  module _ (clock : ℕ) (s : Segment) where
    -- "(SND.UNA - MAX.SND.WND) <= SEG.ACK <= SND.NXT", in offsets from the first of these
    pub ack_range : (low : ℕ) → let side = (run k calls).send in moved_by low side.largest ≡ side.una.0 % 2 ^ 32
        → ((condition 29 (rows (run k calls) clock s) ≡ false) × (condition 31 (rows (run k calls) clock s) ≡ false))
        ↔ (offset_of low s.ack.0 ≤ offset_of low side.nxt.0)
    unfolding rows
    ack_range low leads =
        range_exactly (run k calls).send s.ack.0 low leads
        (omega (arith, largest_most, (sound_always k o calls).send_sound.outstanding_most))

    -- an ACK 2^31 away from UNA counts as too old: row 31 holds of it, and is given unless an earlier row holds, as 29 does with octets outstanding
    pub half_way_31 : offset_of (run k calls).send.una.0 s.ack.0 ≡ 2 ^ 31 → condition 31 (rows (run k calls) clock s) ≡ true
    unfolding rows
    half_way_31 = half_way_too_old (run k calls).send s.ack.0 (omega (arith, largest_most))
