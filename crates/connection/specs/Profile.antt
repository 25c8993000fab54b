-- Opening under the field-station profile (document 02, P13, whose term it is): E17 after E11.
use Rattle.std.specs.Prelude.{cond, List, ℕ, eqb, Result, Ok, Err}
use Rattle.std.proofs.Math.Option.{Option, none, some, Option-elim}
use Rattle.field_station.specs.Demands.{first_lack, lack_value}
use Rattle.offers.specs.declared.Offers.{Offers}
use Rattle.segment.specs.Reading.{reading}
use Rattle.segment.specs.declared.Segment.{Segment}
use Rattle.connection.specs.declared.Opened.{Opened}
use Rattle.connection.specs.declared.ProfileRefusal.{ProfileRefusal}
use Rattle.connection.specs.declared.Setup.{Setup}
use Rattle.connection.specs.Opening.{OpeningAnswer, mss_of, opening, opening_read, peer_offers, refused_opening, shown_open}

-- the first demand that is not met by our offers and the peer's SYN, with the default of its MSS applied
abbrev pub lack_in : Offers → Segment → Option ℕ
lack_in own syn = first_lack own (peer_offers syn) (mss_of syn.options.mss)

-- the answer to an opening under the profile: that of an opening, with what is lacking beside 17
pub record Profiled : Type 0 where
  pub opening : OpeningAnswer
  pub lack : Option ℕ

abbrev pub as_opened : OpeningAnswer → Profiled
as_opened a = record { opening = a; lack = none }

-- E17
abbrev pub lacking : ℕ → Profiled
lacking value = record { opening = refused_opening 17 none; lack = some value }

-- what the base answers stays, unless it opens and one of the three is not met
unfoldable pub under_profile : Offers → OpeningAnswer → Segment → Profiled
under_profile own a syn = cond (eqb a.number 0) (Option-elim (lack_in own syn) (as_opened a) lacking) (as_opened a)

-- E9, E10, E11, E17, of a segment that has been read
unfoldable pub profile_opening_read : Setup → ℕ → Segment → Profiled
profile_opening_read own clock syn = under_profile own.offers (opening_read own clock syn) syn

-- E9, reading, E10, E11, E17
unfoldable pub profile_opening : Setup → ℕ → List ℕ → Profiled
profile_opening own clock octets =
    Option-elim (reading octets).fields (as_opened (opening own clock octets)) (under_profile own.offers (opening own clock octets))

-- the same of what the code answers
abbrev pub shown_profile : Result Opened ProfileRefusal → Profiled
shown_profile (Ok opened) = as_opened (shown_open (Ok opened))
shown_profile (Err (ProfileRefusal.Opening why)) = as_opened (shown_open (Err why))
shown_profile (Err (ProfileRefusal.Lacking lack)) = lacking (lack_value lack)
