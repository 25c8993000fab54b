-- Over any list of calls: records stay sound, and a record's timer is the free-standing timer after the calls made on it, so that demand 3
-- holds in a record. Assumes nothing.
use mathlib.Core.Bool.{Bool, true, false, cond}
use mathlib.Core.List.{List, [], ◌∷◌, ◌++◌, append_assoc}
use mathlib.Core.Option.{Option, none, some, Option-elim}
use mathlib.Core.Path.{◌≡◌, refl, sym, ap, ◌∙◌}
use Prim.Native.Nat.{ℕ}
use lib.Dec.{ltb}
use Rattle.rto.specs.Calls as rto
use Rattle.rto.specs.Demand as rto_demand
use Rattle.rto.specs.Exact.{exact_run, unset}
use Rattle.rto.specs.Timer.{new_timer}
use Rattle.rto.proofs.Bound.{demand_3}
use Rattle.rto.proofs.Calls as timers
use Rattle.segment.specs.Reading.{reading}
use Rattle.segment.specs.declared.Segment.{Segment}
use Rattle.connection.specs.declared.Connection.{Connection}
use Rattle.connection.specs.Numbers.{Decision}
use Rattle.connection.specs.Record.{Sound, blank}
use Rattle.connection.specs.Opening.{record_from, record_with}
use Rattle.connection.specs.Verdict.{decided, rows}
use Rattle.connection.specs.Taking.{fed_by, record_after}
use Rattle.connection.specs.Arriving.{arriving, arriving_read, is_take, judged, not_taken, refusing, settled, taken_by}
use Rattle.connection.specs.Operations.{acknowledged, expired, sent, window_opened}
use Rattle.connection.specs.Calls.{Call, Incoming, Opened, Way, acknowledgment, arrival, arrived, called, expiry, read, run, sending, timer_call, timer_calls, unread, window}
use Rattle.connection.specs.Demand.{Demand3, SoundAlways, TimerFollows}
use Rattle.connection.specs.Cases.{sender, sender_opened, timed}
use Rattle.connection.proofs.Cases.{timed_feeds}
use Rattle.connection.proofs.Incoming.{opened_holds}
use Rattle.connection.proofs.Keeping.{acknowledged_sound, arrived_sound, blank_sound, expired_sound, record_sound, sent_sound, window_sound}

-- what an arrival feeds to the timer is what its record's timer has run through
module _ (k : Connection) (clock : ℕ) where
  settled_timer : (s : Segment) (d : Decision)
      → (settled k clock s d).connection.timer
      ≡ rto.run k.timer (cond (is_take (settled k clock s d).decision.action) (fed_by k clock s) [])
  unfolding settled taken_by record_after
  settled_timer s d = pick (is_take d.action) refl
    where
      pick : (t : Bool) → is_take d.action ≡ t
          → (cond t (taken_by k clock s) (not_taken k s d)).connection.timer
          ≡ rto.run k.timer (cond (is_take (cond t (taken_by k clock s) (not_taken k s d)).decision.action) (fed_by k clock s) [])
      pick true e = refl
      pick false e = rw e refl

  arrival_timer : (number : ℕ) (place : Option ℕ) (fields : Option Segment)
      → (Option-elim fields (refusing k number place) (arriving_read k clock)).connection.timer
      ≡ rto.run k.timer
      (cond (is_take (Option-elim fields (refusing k number place) (arriving_read k clock)).decision.action)
      (Option-elim fields [] (fed_by k clock)) [])
  unfolding Option-elim arriving_read judged
  arrival_timer number place none = refl
  arrival_timer number place (some s) = pick (ltb clock k.timestamping.since)
    where
      pick : (b : Bool) → (cond b (refusing k 8 none) (judged k clock s)).connection.timer
          ≡ rto.run k.timer
          (cond (is_take (cond b (refusing k 8 none) (judged k clock s)).decision.action) (fed_by k clock s) [])
      pick true = refl
      pick false = settled_timer s (decided (rows k clock s))

called_timer : (k : Connection) (c : Call) → (called k c).timer ≡ rto.run k.timer (timer_call k c)
unfolding arriving sent window_opened expired acknowledged Option-elim
called_timer k (arrival clock (unread l)) = arrival_timer k clock (reading l).number (reading l).place (reading l).fields
called_timer k (arrival clock (read s)) = arrival_timer k clock 0 none (some s)
called_timer k (sending n) = refl
called_timer k (window n) = refl
called_timer k expiry = refl
called_timer k acknowledgment = refl

-- what each call does to the record; of a written acknowledgment `acknowledgment` says it of its own function
pub calls_are : (k : Connection) (clock n : ℕ) (i : Incoming) → (called k (arrival clock i) ≡ (arrived k clock i).connection)
    × (called k (sending n) ≡ (sent k n).connection) × (called k (window n) ≡ (window_opened k n).connection) × (called k expiry ≡ expired k)
calls_are k clock n i = (refl, refl, refl, refl)

-- a list of calls, then another
pub run_append : (k : Connection) (cs ds : List Call) → run k (cs ++ ds) ≡ run (run k cs) ds
run_append k [] ds = refl
run_append k (c ∷ cs) ds = run_append (called k c) cs ds

pub timer_calls_append : (k : Connection) (cs ds : List Call) → timer_calls k (cs ++ ds) ≡ timer_calls k cs ++ timer_calls (run k cs) ds
timer_calls_append k [] ds = refl
timer_calls_append k (c ∷ cs) ds =
    ap (λ later. timer_call k c ++ later) (timer_calls_append (called k c) cs ds)
    ∙ sym (append_assoc (timer_call k c) (timer_calls (called k c) cs) (timer_calls (run (called k c) cs) ds))

run_timer : (calls : List Call) (k : Connection) → (run k calls).timer ≡ rto.run k.timer (timer_calls k calls)
run_timer [] k = refl
run_timer (c ∷ cs) k =
    run_timer cs (called k c)
    ∙ (ap (λ t. rto.run t (timer_calls (called k c) cs)) (called_timer k c)
    ∙ sym (timers.run_append k.timer (timer_call k c) (timer_calls (called k c) cs)))

-- the timer is new at opening
opened_timer : (k : Connection) → Opened k → k.timer ≡ new_timer
unfolding record_from record_with blank
opened_timer k o = opened_holds (λ (r : Connection). r.timer ≡ new_timer) refl k o (λ _ _. refl)

-- an opening, then any calls
pub called_sound : (k : Connection) (c : Call) → Sound k → Sound (called k c)
called_sound k (arrival clock i) h = arrived_sound k h clock i
called_sound k (sending n) h = sent_sound k h n
called_sound k (window n) h = window_sound k h n
called_sound k expiry h = expired_sound k h
called_sound k acknowledgment h = acknowledged_sound k h

run_sound : (calls : List Call) (k : Connection) → Sound k → Sound (run k calls)
run_sound [] k h = h
run_sound (c ∷ cs) k h = run_sound cs (called k c) (called_sound k c h)

pub sound_always : SoundAlways
sound_always k o calls = run_sound calls k (opened_holds Sound blank_sound k o (λ syn _. record_sound o.own o.clock syn))

pub timer_follows : TimerFollows
timer_follows k o calls = run_timer calls k ∙ ap (λ t. rto.run t (timer_calls k calls)) (opened_timer k o)

pub demand_3_in_record : Demand3
unfolding Demand3 rto_demand.Demand3
demand_3_in_record k o calls stands = rw (timer_follows k o calls) (demand_3 (timer_calls k calls) stands)

-- the claims' premises can be met: a record is opened, by either way, and a segment is taken whose sample is 57 ms with an N of 3
demand_3_in_record_worked : (way : Way) → rto_demand.OnTime (run (sender way) timed).timer.timeout (exact_run unset (timer_calls (sender way) timed))
unfolding Demand3
demand_3_in_record_worked way =
    demand_3_in_record (sender way) (sender_opened way) timed
    (record { before = []; rtt = 57; expected = 3; after = []; split = timed_feeds way; not_refused = refl; last = tt })
