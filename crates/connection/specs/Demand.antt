-- The claims over every list of calls from a record that is freshly opened.
use Rattle.std.specs.Prelude.{List, ◌∷◌, map, ◌≡◌}
use Rattle.laws.specs.Lists.{IsLargest}
use Rattle.rto.specs.Calls as rto
use Rattle.rto.specs.Demand.{OnTime, NoExpirySinceSample}
use Rattle.rto.specs.Exact.{exact_run, unset}
use Rattle.rto.specs.Timer.{new_timer}
use Rattle.connection.specs.declared.Connection.{Connection}
use Rattle.connection.specs.Record.{Sound}
use Rattle.connection.specs.Calls.{Call, Opened, records_after, run, timer_calls}

-- the record is sound
abbrev pub SoundAlways : Type 0
SoundAlways = (k : Connection) → Opened k → (calls : List Call) → Sound (run k calls)

-- its timer is what the free-standing timer is after the samples and expiries that those calls made
abbrev pub TimerFollows : Type 0
TimerFollows = (k : Connection) → Opened k → (calls : List Call) → (run k calls).timer ≡ rto.run new_timer (timer_calls k calls)

-- demand 3 in a record
unfoldable pub Demand3 : Type 0
Demand3 =
    (k : Connection) → Opened k → (calls : List Call) → NoExpirySinceSample (timer_calls k calls)
    → OnTime (run k calls).timer.timeout (exact_run unset (timer_calls k calls))

-- the largest SND.WND that it stores is exactly the largest that it had: that of its opening and those after each call (document 02, P5)
abbrev pub LargestWindow : Type 0
LargestWindow =
    (k : Connection) → Opened k → (calls : List Call)
    → IsLargest (run k calls).send.largest (map (λ (r : Connection). r.send.window) (k ∷ records_after k calls))
