-- What the worked cases give: the record that they start from is opened, and by either way of opening a segment's sample is 57 ms with an N of
-- 3. Assumes nothing.
use mathlib.Core.List.{[], ◌∷◌}
use mathlib.Core.Path.{◌≡◌}
use Rattle.rto.specs.Calls as rto
use Rattle.connection.specs.Calls.{Opened, Way, plain, profile, timer_calls, unread}
use Rattle.connection.specs.Cases.{base, cases, octets, own, sender, stamps, timed}

pub base_opened : Opened base
base_opened = record { way = plain; own = own 65535; clock = 100; syn = unread (octets 4999 0 2 9 (stamps 50 0) 0); opens = cases.2 }

pub timed_feeds : (way : Way) → timer_calls (sender way) timed ≡ rto.sample 57 3 ∷ []
timed_feeds plain = cases.4
timed_feeds profile = cases.5
