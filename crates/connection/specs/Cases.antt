-- One case for each verdict and each refusal number that the calls of this crate give, two in which 31 holds beside 29 and beside 30, the
-- windows of a short run, and a sample with its N of a record that either way opens, computed from the definitions under one statement, of
-- records that an opening gave, or an opening and the segments after it. Flags are 2 for SYN, 4 for RST, 16 for ACK.
use Rattle.std.specs.Prelude.{ℕ, ◌+◌, ◌*◌, ◌/◌, true, false, List, [], ◌∷◌, ◌++◌, map, ◌≡◌, refl, length, replicate, None}
use Rattle.std.proofs.Math.Option.{Option-elim}
use Rattle.serial.specs.Serial.{distance_of, offset_of, range}
use Rattle.octets.specs.Octets.{big_endian, number_at}
use Rattle.field_station.specs.Demands.{first_lack}
use Rattle.offers.specs.Offers.{exceed_limits, in_force, shifts_in_force}
use Rattle.receive.specs.Ranges.{held_of, is_out_of_order, joined, left_of, meets, no_room, range_of, ranges_after, ranges_of, right_of}
use Rattle.receive.specs.Taking as taking
use Rattle.receive.specs.Window as receive
use Rattle.rto.specs.Calls as rto
use Rattle.rto.specs.Timer.{new_timer}
use Rattle.segment.specs.Grammar.{is_broken, padding, padding_rule}
use Rattle.segment.specs.Options.{fault_at, fault_in, is_repeated, is_wrong_length, lengths_of, option_in, options_of, stands_in}
use Rattle.segment.specs.Reading.{options_read, reading, segment_of}
use Rattle.send.specs.Send as send
use Rattle.timestamps.specs.Timestamps as timestamps
use Rattle.timestamps.specs.declared.Timestamping.{Timestamping}
use Rattle.connection.specs.declared.Connection.{Connection}
use Rattle.connection.specs.declared.Setup.{Setup}
use Rattle.connection.specs.Numbers.{Action, Decision, drop_silent, drop_with_ack, refuse, reset, take}
use Rattle.connection.specs.Opening.{OpeningAnswer, is_not_syn, is_wrong_ack, opening, opening_from, record_from, record_with}
use Rattle.connection.specs.Profile.{profile_opening, under_profile}
use Rattle.connection.specs.Verdict.{rows}
use Rattle.connection.specs.Taking.{fed_by, record_after, sample_of}
use Rattle.connection.specs.Arriving.{arriving, arriving_read, judged, settled, taken_by}
use Rattle.connection.specs.Operations.{sent, window_opened}
use Rattle.connection.specs.Calls.{Call, Incoming, Opened, Way, arrival, opened_under, plain, profile, profiled_by, records_after, run, sending, timer_calls, unread}

-- octets of a segment: SEQ, ACK, flags, window, options and payload
abbrev pub octets : ℕ → ℕ → ℕ → ℕ → List ℕ → ℕ → List ℕ
octets seq ack flags field options payload =
    big_endian 2 40001 ++ (big_endian 2 443 ++ (big_endian 4 seq ++ (big_endian 4 ack
    ++ ((16 * (5 + length options / 4)) ∷ flags ∷ (big_endian 2 field ++ (replicate 4 0 ++ (options ++ replicate payload 170)))))))

-- NOP, NOP and timestamps
abbrev pub stamps : ℕ → ℕ → List ℕ
stamps value echoed = 1 ∷ 1 ∷ 8 ∷ 10 ∷ (big_endian 4 value ++ big_endian 4 echoed)

-- timestamps offered; our timestamp is the clock and 7 more. Given is the first window.
abbrev pub own : ℕ → Setup
own window = record {
  iss = record { 0 = 1000 };
  offers = record { scale = None; timestamps = true; sack = false };
  window = window;
  offset = 7;
}

-- an opening at clock 100: first window, ACK, flags
abbrev opens : ℕ → ℕ → ℕ → OpeningAnswer
opens window ack flags = opening (own window) 100 (octets 4999 ack flags 9 (stamps 50 0) 0)

-- a record without scaling, with one octet outstanding: RCV.NXT and the window there, ranges of so many numbers from these on, the newest
-- first, WL1, and the timestamps. Last.ACK.sent is 5,000.
abbrev pub record_holding : ℕ → ℕ → ℕ → List ℕ → ℕ → Timestamping → Connection
record_holding nxt window size lefts wl1 stamping = record {
  receive = record {
    nxt = record { 0 = nxt };
    window = window;
    shift = 0;
    acked = record { 0 = 5000 };
    held = held_of (map (λ left. range left (left + size)) lefts);
  };
  send = record {
    una = record { 0 = 1000 };
    nxt = record { 0 = 1001 };
    window = 9;
    largest = 9;
    shift = 0;
    wl1 = record { 0 = wl1 };
    wl2 = record { 0 = 1000 };
  };
  timestamping = stamping;
  sack = false;
  mss = 536;
  timer = new_timer;
}

-- the record so opened, where ten octets came from each of these numbers on, the newest first, and WL1
abbrev holding : List ℕ → ℕ → Connection
holding lefts wl1 = record_holding 5000 65535 10 lefts wl1 (record { active = true; recent = record { 0 = 50 }; since = 100; offset = 7 })

abbrev pub base : Connection
base = holding [] 4999

abbrev full : Connection
full = holding (6700 ∷ 6600 ∷ 6500 ∷ 6400 ∷ 6300 ∷ 6200 ∷ 6100 ∷ 6000 ∷ []) 6700

-- ten octets from a number on
abbrev ten : ℕ → Call
ten seq = arrival 100 (unread (octets seq 1000 16 9 (stamps 50 0) 10))

-- two segments without octets: the window goes up from 9 to 20, then down to 5
abbrev pub rising : List Call
rising = arrival 100 (unread (octets 5000 1000 16 20 (stamps 50 0) 0)) ∷ arrival 100 (unread (octets 5000 1000 16 5 (stamps 50 0) 0)) ∷ []

-- an arrival at clock 150
abbrev at : Connection → ℕ → ℕ → ℕ → List ℕ → ℕ → Decision
at k seq ack flags options payload = (arriving k 150 (octets seq ack flags 9 options payload)).decision

abbrev decision : ℕ → Action → Decision
decision number action = record { number = number; action = action }

pub arrivals : List (Decision × Decision)
arrivals =
    ((arriving base 99 []).decision, decision 1 refuse)
    ∷ ((arriving base 99 (replicate 65536 80)).decision, decision 2 refuse)
    ∷ ((arriving base 99 (replicate 20 0)).decision, decision 3 refuse)
    ∷ (at base 5000 1001 16 (8 ∷ 9 ∷ 0 ∷ 0 ∷ []) 0, decision 4 refuse)
    ∷ (at base 5000 1001 16 (2 ∷ 3 ∷ 0 ∷ 0 ∷ []) 0, decision 5 refuse)
    ∷ (at base 5000 1001 16 (4 ∷ 2 ∷ 4 ∷ 2 ∷ []) 0, decision 6 refuse)
    ∷ ((arriving base 99 (octets 5000 1001 16 9 (stamps 60 0) 0)).decision, decision 8 refuse)
    ∷ (at base 5000 1001 16 [] 0, decision 21 drop_silent)
    ∷ (at base 5000 1001 16 (stamps 49 0) 0, decision 22 drop_with_ack)
    ∷ (at base 4999 1001 4 (stamps 60 0) 0, decision 23 drop_silent)
    ∷ (at base 4999 1001 16 (stamps 60 0) 0, decision 24 drop_with_ack)
    ∷ (at base 5000 1001 4 (stamps 60 0) 0, decision 25 reset)
    ∷ (at base 5001 1001 4 (stamps 60 0) 0, decision 26 drop_with_ack)
    ∷ (at base 5000 1001 2 (stamps 60 0) 0, decision 27 drop_with_ack)
    ∷ (at base 5000 1001 0 (stamps 60 0) 0, decision 28 drop_silent)
    ∷ (at base 5000 1002 16 (stamps 60 0) 0, decision 29 drop_with_ack)
    ∷ (at base 5000 2147484648 16 (stamps 60 0) 0, decision 29 drop_with_ack)
    ∷ (at base 5000 990 16 (stamps 60 0) 0, decision 31 drop_with_ack)
    ∷ (at full 6800 990 16 (stamps 60 0) 10, decision 31 drop_with_ack)
    ∷ (at full 6800 1001 16 (stamps 60 0) 10, decision 30 drop_with_ack)
    ∷ (at base 5000 1001 16 (stamps 60 0) 10, decision 0 take)
    ∷ []

-- the SYN of a peer that offers an MSS and a window of 4,000
abbrev offering : ℕ → Incoming
offering mss = unread (octets 4999 0 2 4000 (2 ∷ 4 ∷ (big_endian 2 mss ++ stamps 50 0)) 0)

-- openings, octets sent, a new window
pub numbers : List (ℕ × ℕ)
numbers =
    ((opens 65535 0 2).number, 0)
    ∷ ((opens 65536 0 2).number, 9)
    ∷ ((opens 65535 0 16).number, 10)
    ∷ ((opens 65535 1000 18).number, 11)
    ∷ ((sent base 9).number, 12)
    ∷ ((window_opened base 65534).number, 13)
    ∷ ((profiled_by (own 65535) 100 (offering 535)).opening.number, 17)
    ∷ []

-- the record that such a SYN with an MSS of 600 opens, by either way
abbrev pub sender : Way → Connection
sender way = (opened_under way (own 65535) 100 (offering 600)).connection

-- 3,401 octets are outstanding, our SYN among them, when a segment acknowledges 1,101 of them; its sample is 57 ms
abbrev pub timed : List Call
timed = sending 3400 ∷ arrival 150 (unread (octets 5000 2101 16 4000 (stamps 60 100) 0)) ∷ []

pub cases : (map (λ c. c.0) arrivals ≡ map (λ c. c.1) arrivals)
    × (map (λ c. c.0) numbers ≡ map (λ c. c.1) numbers)
    × ((opens 65535 0 2).connection ≡ base)
    × (run base (ten 6000 ∷ ten 6100 ∷ ten 6200 ∷ ten 6300 ∷ ten 6400 ∷ ten 6500 ∷ ten 6600 ∷ ten 6700 ∷ []) ≡ full)
    × (timer_calls (sender plain) timed ≡ rto.sample 57 3 ∷ [])
    × (timer_calls (sender profile) timed ≡ rto.sample 57 3 ∷ [])
    × (map (λ (k : Connection). k.send.window) (base ∷ records_after base rising) ≡ 9 ∷ 20 ∷ 5 ∷ [])
    × ((run base rising).send.largest ≡ 20)
unfolding arrivals numbers distance_of offset_of big_endian number_at exceed_limits in_force shifts_in_force held_of is_out_of_order joined left_of meets no_room
    range_of ranges_after ranges_of right_of taking.advanced taking.holding taking.taken receive.acceptable receive.is_window_refused receive.lacks_room
    receive.new_part receive.opened receive.window_opened is_broken padding padding_rule fault_at fault_in is_repeated is_wrong_length lengths_of
    option_in options_of stands_in options_read reading segment_of send.opened send.is_too_old send.is_new send.acknowledged send.is_current send.is_later
    send.updates_window send.windowed send.taken send.exceeds_window send.sent is_not_syn is_wrong_ack opening opening_from record_from record_with
    timestamps.opened timestamps.is_old timestamps.is_missing timestamps.outdated timestamps.value_before timestamps.is_recorded
    timestamps.replaces_recent timestamps.taken rows fed_by record_after sample_of arriving arriving_read judged settled taken_by sent
    window_opened first_lack under_profile profile_opening Option-elim
cases = (refl, refl, refl, refl, refl, refl, refl, refl)

pub sender_opened : (way : Way) → Opened (sender way)
sender_opened way = record { way = way; own = own 65535; clock = 100; syn = offering 600; opens = refl }
