-- What the code answers where reading, the profile or neither refuses: the cases of `opening`, `profile_opening`, `arriving`. Assumes nothing.
use mathlib.Core.Bool.{true, false}
use mathlib.Core.List.{List}
use mathlib.Core.Option.{Option, none, some, Option-elim}
use mathlib.Core.Path.{◌≡◌, sym, ap, ◌∙◌}
use Prim.Native.Nat.{ℕ}
use Rattle.std.specs.Prelude.{Result, Ok, Err}
use Rattle.field_station.specs.Demands.{lack_value}
use Rattle.field_station.specs.declared.Lack.{Lack}
use Rattle.offers.specs.declared.Offers.{Offers}
use Rattle.segment.proofs.Readable.{answer_is}
use Rattle.segment.specs.Reading as segment
use Rattle.segment.specs.Reading.{reading, reported, shown_answer}
use Rattle.segment.specs.declared.Reading.{Reading}
use Rattle.segment.specs.declared.Refusal.{Refusal}
use Rattle.segment.specs.declared.Segment.{Segment}
use Rattle.connection.specs.declared.ArriveRefusal.{ArriveRefusal}
use Rattle.connection.specs.declared.Connection.{Connection}
use Rattle.connection.specs.declared.OpenRefusal.{OpenRefusal}
use Rattle.connection.specs.declared.Opened.{Opened}
use Rattle.connection.specs.declared.ProfileRefusal.{ProfileRefusal}
use Rattle.connection.specs.declared.Setup.{Setup}
use Rattle.connection.specs.Opening.{exceeds_limits, opening, opening_from, refused_opening, shown_open}
use Rattle.connection.specs.Profile.{as_opened, lack_in, lacking, profile_opening, shown_profile, under_profile}
use Rattle.connection.specs.Arriving.{arriving, arriving_read, shown}

-- what reading answered
pub read_shown : (octets : List ℕ) (r : Reading) (outcome : Result Segment Refusal) → segment.shown r ≡ reported octets → r.outcome ≡ outcome
    → shown_answer outcome ≡ reading octets
read_shown octets r outcome is was = ap shown_answer (sym was) ∙ answer_is is

-- octets that do not read
module _ (octets : List ℕ) (why : Refusal) (is : shown_answer (Err why) ≡ reading octets) where
  module _ (own : Setup) (clock : ℕ) (within : exceeds_limits own ≡ false) where
    pub unread_opening : shown_open (Err (OpenRefusal.Segment why)) ≡ opening own clock octets
    unfolding opening Option-elim
    unread_opening = rw (within, ← is)

    pub unread_profile : shown_profile (Err (ProfileRefusal.Opening (OpenRefusal.Segment why))) ≡ profile_opening own clock octets
    unfolding profile_opening opening Option-elim
    unread_profile = rw (within, ← is)

  pub unread_arrival : (k : Connection) (clock : ℕ) → shown k (Err (ArriveRefusal.Segment why)) ≡ arriving k clock octets
  unfolding arriving Option-elim
  unread_arrival k clock = rw (← is)

-- those that do
module _ (octets : List ℕ) (s : Segment) (is : shown_answer (Ok s) ≡ reading octets) where
  module _ (own : Setup) (clock : ℕ) (within : exceeds_limits own ≡ false) where
    pub read_opening : opening_from own clock s ≡ opening own clock octets
    unfolding opening Option-elim
    read_opening = rw (within, ← is)

    pub read_profile : under_profile own.offers (opening_from own clock s) s ≡ profile_opening own clock octets
    unfolding profile_opening opening Option-elim
    read_profile = rw (within, ← is)

  pub read_arrival : (k : Connection) (clock : ℕ) → arriving_read k clock s ≡ arriving k clock octets
  unfolding arriving Option-elim
  read_arrival k clock = rw (← is)

-- under the profile E9 stays as it is, whatever the octets
pub limits_profile : (own : Setup) (clock : ℕ) (octets : List ℕ) → exceeds_limits own ≡ true
    → as_opened (refused_opening 9 none) ≡ profile_opening own clock octets
unfolding profile_opening under_profile opening Option-elim
limits_profile own clock octets exceeds = go (reading octets).fields
  where
    go : (fields : Option Segment) → as_opened (refused_opening 9 none)
        ≡ Option-elim fields (as_opened (opening own clock octets)) (under_profile own.offers (opening own clock octets))
    go none = rw exceeds
    go (some s) = rw exceeds

-- what is opened goes by the first demand that is not met
module _ (own : Offers) (opened : Opened) (syn : Segment) where
  pub under_lacking : (lack : Lack) → some (lack_value lack) ≡ lack_in own syn → lacking (lack_value lack) ≡ under_profile own (shown_open (Ok opened)) syn
  unfolding under_profile Option-elim
  under_lacking lack is = rw (← is)

  pub under_met : none ≡ lack_in own syn → as_opened (shown_open (Ok opened)) ≡ under_profile own (shown_open (Ok opened)) syn
  unfolding under_profile Option-elim
  under_met is = rw (← is)
