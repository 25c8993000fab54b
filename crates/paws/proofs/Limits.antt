-- The premises allow a list of calls at each of their limits, and the claim holds of it: the last number below the right edge of our SYN, and
-- below that of an acknowledgment; a start 2^30 - 1 below the highest number; stamps that are equal, and 2^31 - 1 ticks ahead and behind; a
-- clock of exactly 24 days; and what does not read, or has no timestamps, among the calls. Assumes nothing.
use Rattle.std.specs.Prelude.{Some}
use mathlib.Core.Bool.{Bool, true, false}
use mathlib.Core.List.Memᴰ
use mathlib.Core.List.{List, [], ◌∷◌}
use mathlib.Core.Option.{Option-elim}
use mathlib.Core.Path.{◌≡◌, refl, ap}
use Prim.Native.Nat.{ℕ, ◌+◌, ◌^◌, ◌≤◌, ◌<◌}
use native.Mathlib.Omega.{arith}
use lib.Dec.{ltb}
use lib.ListN.{take}
use borrow.Author.Tests.{ltb-false}
use Rattle.laws.specs.Lists.{Each, any}
use Rattle.laws.specs.Lists.EachTwo.{no_two, more_two}
use Rattle.laws.proofs.Lists.{each_in, each_map, none_passes}
use Rattle.serial.specs.Serial.{distance_of, offset_of}
use Rattle.field_station.specs.Demands.{first_lack}
use Rattle.offers.specs.Offers.{exceed_limits, in_force, shifts_in_force}
use Rattle.timestamps.specs.Timestamps as timestamps
use Rattle.timestamps.specs.Timestamps.{outdated}
use Rattle.receive.specs.Ranges.{held_of, is_out_of_order, joined, left_of, meets, no_room, range_of, ranges_after, ranges_of, right_of}
use Rattle.receive.specs.Taking as taking
use Rattle.receive.specs.Window as receive
use Rattle.segment.specs.Reading.{reading}
use Rattle.send.specs.Send as send
use Rattle.connection.specs.Arriving.{arriving, arriving_read, judged, settled, taken_by}
use Rattle.connection.specs.Calls.{Incoming, acknowledgment, arrived, profile, read, unread, window}
use Rattle.connection.specs.Opening.{is_not_syn, is_wrong_ack, opening_from, opening_read, record_from, record_with}
use Rattle.connection.specs.Operations as operations
use Rattle.connection.specs.Profile.{profile_opening_read, under_profile}
use Rattle.connection.specs.Taking.{fed_by, record_after}
use Rattle.connection.specs.Verdict.{rows}
use Rattle.acknowledgment.specs.Acknowledgment.{window_field}
use Rattle.paws.specs.Claim.{EachInPlace, NoWrappedOctet}
use Rattle.paws.specs.History.{Brings, Has, In, Sent, Unstamped, unreadable, without}
use Rattle.paws.specs.Premises.{Allowed, AllowedStep, Peer}
use Rattle.paws.specs.Runs.{Opening, Run, Step, Throughout, arrives, opened, other, ran, unstamped}
use Rattle.paws.specs.Segments.{fields, as_fields, own}
use Rattle.paws.specs.Limits.{ahead, far, first, history, last, late, low, reset, syn}
use Rattle.paws.proofs.Theorem.{no_wrapped_octet}

-- the history: no number is above the last one's, none starts 2^30 below it, and no stamp is below one before it
none_above : Each (λ (p : Sent). ltb (2 ^ 32 + 85001) (p.start + p.len) ≡ false) history
none_above = none_passes _ history refl

none_below : Each (λ (p : Sent). ltb (p.start + 2 ^ 30) (2 ^ 32 + 85001) ≡ false) history
none_below = none_passes _ history refl

near : (s p : Sent) (n : ℕ) → In history s → In history p → p.stamp ≤ s.stamp → Has p n → n < s.start + 2 ^ 30
near s p n there sent order has =
    let starts = ltb-false (s.start + 2 ^ 30) (2 ^ 32 + 85001) (each_in none_below there) in
    let ends = ltb-false (2 ^ 32 + 85001) (p.start + p.len) (each_in none_above sent) in
    omega arith

later : (p : Sent) (l : List Sent) → any (λ (q : Sent). ltb q.stamp p.stamp) l ≡ false → Each (λ (q : Sent). p.stamp ≤ q.stamp) l
later p l none = each_map (λ q e. ltb-false q.stamp p.stamp e) (none_passes _ l none)

pub limits_peer : Peer history
limits_peer = record {
  never_fall =
      more_two (later syn _ refl)
      (more_two (later far _ refl) (more_two (later first _ refl) (more_two (later last _ refl) (more_two (later low _ refl) no_two))));
  starts_near = near;
}

-- the opening
pub limits_opening : Opening history
unfolding distance_of offset_of exceed_limits in_force shifts_in_force held_of receive.opened send.opened timestamps.opened is_not_syn is_wrong_ack opening_from
    opening_read record_from record_with first_lack under_profile profile_opening_read Option-elim
limits_opening = record {
  way = profile;
  own = own (Some 3);
  clock = 100;
  segment = read (fields true (Some 2) 4999 50 0);
  opens = refl;
  active = refl;
  syn =
      record {
        sent = syn;
        in_history = Memᴰ.head refl;
        fields = fields true (Some 2) 4999 50 0;
        reads = refl;
        seq = refl;
        len = refl;
        echoed = record { 0 = 0 };
        stamp = refl;
      };
}

abbrev pub start : Run
start = opened limits_opening

-- the calls
pub brings : (p : Sent) → In history p → Brings history (read (as_fields p))
unfolding as_fields
brings p there = record {
  sent = p;
  in_history = there;
  fields = as_fields p;
  reads = refl;
  seq = refl;
  len = omega arith;
  echoed = record { 0 = 0 };
  stamp = refl;
}

abbrev pub comes : (p : Sent) → In history p → Step history
comes p there = arrives late (read (as_fields p)) (brings p there)

pub far_in : In history far
far_in = Memᴰ.tail (Memᴰ.head refl)

pub first_in : In history first
first_in = Memᴰ.tail (Memᴰ.tail (Memᴰ.head refl))

pub last_in : In history last
last_in = Memᴰ.tail (Memᴰ.tail (Memᴰ.tail (Memᴰ.head refl)))

pub low_in : In history low
low_in = Memᴰ.tail (Memᴰ.tail (Memᴰ.tail (Memᴰ.tail (Memᴰ.head refl))))

pub unreadable_empty : Unstamped (unread [])
unfolding reading
unreadable_empty = unreadable refl

unfoldable pub calls : List (Step history)
calls =
    comes far far_in
    ∷ comes first first_in
    ∷ unstamped late (unread []) unreadable_empty
    ∷ unstamped late (read reset) (without reset refl refl)
    ∷ other (window 80007) tt
    ∷ other acknowledgment tt
    ∷ comes last last_in
    ∷ comes far far_in
    ∷ comes low low_in
    ∷ []

-- what the call after n others finds: the true stamp in TS.Recent, the highest edge written, and whether TS.Recent is outdated
abbrev before : ℕ → Run
before n = ran start (take n calls)

abbrev found : Run → ℕ × ℕ × Bool
found r = (r.recent, r.edge, outdated r.now.timestamping late)

-- and the verdicts on the arrivals, with E1 for no octets
abbrev verdict : ℕ → Incoming → ℕ
verdict n i = (arrived (before n).now late i).decision.number

worked_out : (found (before 0) ≡ (50, 2 ^ 32 + 70535, false))
    × (found (before 1) ≡ (50, 2 ^ 32 + 70535, false))
    × (found (before 6) ≡ (ahead, 2 ^ 32 + 85001, false))
    × (found (before 7) ≡ (ahead, 2 ^ 32 + 85001, false))
    × (found (before 8) ≡ (ahead, 2 ^ 32 + 85001, false))
    × (verdict 0 (read (as_fields far)) ∷ verdict 1 (read (as_fields first)) ∷ verdict 2 (unread []) ∷ verdict 3 (read reset)
    ∷ verdict 6 (read (as_fields last)) ∷ verdict 7 (read (as_fields far)) ∷ verdict 8 (read (as_fields low)) ∷ []
    ≡ 0 ∷ 0 ∷ 1 ∷ 25 ∷ 0 ∷ 22 ∷ 24 ∷ [])
unfolding limits_opening calls brings as_fields distance_of offset_of exceed_limits in_force shifts_in_force held_of is_out_of_order joined left_of meets no_room range_of
    ranges_after ranges_of right_of taking.advanced taking.holding taking.taken receive.acceptable receive.is_window_refused receive.lacks_room
    receive.new_part receive.opened receive.window_opened reading send.opened send.is_too_old send.is_new send.acknowledged send.is_current send.is_later
    send.updates_window send.windowed send.taken is_not_syn is_wrong_ack opening_from opening_read record_from record_with timestamps.opened
    timestamps.is_old timestamps.is_missing outdated timestamps.value_before timestamps.is_recorded timestamps.replaces_recent
    timestamps.taken rows fed_by record_after arriving arriving_read judged settled taken_by operations.window_opened operations.acknowledged window_field
    first_lack under_profile profile_opening_read Option-elim
worked_out = (refl, refl, refl, refl, refl, refl)

allowed : (p : Sent) (recent edge : ℕ) (r : Run) → found r ≡ (recent, edge, false)
    → p.start + p.len ≤ edge → p.stamp < recent + 2 ^ 31 → recent < p.stamp + 2 ^ 31 → Allowed r late p
allowed p recent edge r is below ahead behind =
    let recent_is : r.recent ≡ recent = ap (λ v. v.0) is in
    let edge_is : r.edge ≡ edge = ap (λ v. v.1) is in
    record {
      within_edge = λ n has. omega arith;
      not_ahead = omega arith;
      not_behind = omega arith;
      not_outdated = ap (λ v. v.2) is;
    }

pub limits_allowed : Throughout AllowedStep start calls
unfolding calls brings
limits_allowed =
    let edge : ℕ = 2 ^ 32 + 70535 in
    let written : ℕ = 2 ^ 32 + 85001 in
    let a = allowed far 50 edge (before 0) worked_out.0 (omega arith) (omega arith) (omega arith) in
    let b = allowed first 50 edge (before 1) worked_out.1 (omega arith) (omega arith) (omega arith) in
    let c = allowed last ahead written (before 6) worked_out.2 (omega arith) (omega arith) (omega arith) in
    let d = allowed far ahead written (before 7) worked_out.3 (omega arith) (omega arith) (omega arith) in
    let e = allowed low ahead written (before 8) worked_out.4 (omega arith) (omega arith) (omega arith) in
    (a, (b, (tt, (tt, (tt, (tt, (c, (d, (e, tt)))))))))

pub limits_in_place : Throughout EachInPlace start calls
unfolding NoWrappedOctet limits_opening
limits_in_place = no_wrapped_octet history limits_peer limits_opening (omega arith) calls limits_allowed
