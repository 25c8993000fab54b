-- Opening under the field-station profile in document 02's words (P13): "E17 is given after E11, exactly when one of these isn't met, with 1, 2
-- or 3 beside it for the first of them in that order. What the profile opens is the record that the base would open. Demands 2 and 3 hold over
-- both ways of opening by one proof." The demands are those of `field_station`. Assumes nothing.
use mathlib.Core.List.{List, ◌∷◌, map}
use mathlib.Core.Logic.{◌↔◌}
use mathlib.Core.Option.{Option, none, some, Option-elim, some-ne-none}
use mathlib.Core.Path.{◌≡◌, refl, sym, ap, ◌∙◌}
use Prim.Native.Nat.{ℕ}
use native.Mathlib.Omega.{arith}
use borrow.Author.Tests.{eq-eqb}
use Rattle.std.specs.Prelude.{Ok, Err}
use Rattle.laws.specs.Lists.{IsLargest}
use Rattle.field_station.specs.Demands.{lack_value}
use Rattle.field_station.specs.declared.Lack.{Lack}
use Rattle.field_station.proofs.Laws as demands
use Rattle.rto.specs.Calls as rto
use Rattle.rto.specs.Demand.{NoExpirySinceSample, OnTime}
use Rattle.rto.specs.Exact.{exact_run, unset}
use Rattle.rto.specs.Timer.{new_timer}
use Rattle.segment.specs.declared.Segment.{Segment}
use Rattle.connection.specs.declared.Connection.{Connection}
use Rattle.connection.specs.declared.OpenRefusal.{OpenRefusal}
use Rattle.connection.specs.declared.Opened.{Opened}
use Rattle.connection.specs.declared.ProfileRefusal.{ProfileRefusal}
use Rattle.connection.specs.declared.Setup.{Setup}
use Rattle.connection.specs.Numbers.{open_refusal_number, open_refusal_place, profile_refusal_number}
use Rattle.connection.specs.Record.{Sound, blank}
use Rattle.connection.specs.Opening.{OpeningAnswer, mss_of, peer_offers, shown_open}
use Rattle.connection.specs.Profile.{Profiled, as_opened, lack_in, lacking, shown_profile, under_profile}
use Rattle.connection.specs.Calls.{Call, Incoming, Way, fields_of, opened_by, opened_under, profiled_by, records_after, run, timer_calls}
use Rattle.connection.specs.Demand.{Demand3}
use Rattle.connection.proofs.Incoming.{opened_any, profiled_by_fields, profiled_cases}
use Rattle.connection.proofs.Openings.{opening_most}
use Rattle.connection.proofs.Runs.{demand_3_in_record, sound_always, timer_follows}
use Rattle.connection.proofs.Largest.{largest_window}

-- the demands, of our offers and the peer's SYN: its offers, and its MSS with the default applied
module _ (own : Setup) (syn : Segment) where
  abbrev pub FirstUnmet : Option ℕ → Type 0
  FirstUnmet o = demands.FirstUnmet own.offers (peer_offers syn) (mss_of syn.options.mss) o

  abbrev pub Meets : Type 0
  Meets = demands.Meets own.offers (peer_offers syn) (mss_of syn.options.mss)

  lack_exactly : (o : Option ℕ) → lack_in own.offers syn ≡ o ↔ FirstUnmet o
  lack_exactly o = demands.lack_exactly own.offers (peer_offers syn) (mss_of syn.options.mss) o

module _ (own : Setup) (clock : ℕ) (i : Incoming) where
  -- the base's answer, with nothing lacking
  abbrev AsBase : Profiled → Type 0
  AsBase a = a ≡ record { opening = opened_by own clock i; lack = none }

  -- what the base refuses is refused as it was: number, place and record
  pub refusal_stays : ((opened_by own clock i).number ≡ 0 → ⊥) → AsBase (profiled_by own clock i)
  refusal_stays refuses = profiled_cases AsBase own clock i refl (λ opens syn is n lacks. absurd (refuses opens))

  -- what the base opens goes by the first demand that is not met
  module _ (opens : (opened_by own clock i).number ≡ 0) (syn : Segment) (is : fields_of i ≡ some syn) where
    by_lack : profiled_by own clock i ≡ Option-elim (lack_in own.offers syn) (as_opened (opened_by own clock i)) lacking
    unfolding under_profile
    by_lack = profiled_by_fields own clock i syn is ∙ rw (eq-eqb (opened_by own clock i).number 0 opens)

    -- 17, the blank record and that demand, no place and no count
    pub lacking_refused : (n : ℕ) → FirstUnmet own syn (some n)
        → profiled_by own clock i
        ≡ record { opening = record { number = 17; place = none; skipped = none; connection = blank }; lack = some n }
    unfolding Option-elim
    lacking_refused n unmet = by_lack ∙ rw ((lack_exactly own syn (some n)).1 unmet) refl

    pub met_opens : Meets own syn → AsBase (profiled_by own clock i)
    unfolding Option-elim
    met_opens met = by_lack ∙ rw ((lack_exactly own syn none).1 (demands.all_met met)) refl

  -- what the profile opens is what the base would open: the record, and the count of unknown options
  pub opens_as_base : (profiled_by own clock i).opening.number ≡ 0 → AsBase (profiled_by own clock i)
  opens_as_base =
      profiled_cases (λ a. a.opening.number ≡ 0 → AsBase a) own clock i (λ _. refl) (λ opens syn is n lacks e. absurd (omega arith))

  -- the base opens, and one of the three is not met
  pub record Unmet : Type 0 where
    pub opens : (opened_by own clock i).number ≡ 0
    pub syn : Segment
    pub is : fields_of i ≡ some syn
    pub one_not_met : ¬ Meets own syn

  not_all : (syn : Segment) (n : ℕ) → lack_in own.offers syn ≡ some n → ¬ Meets own syn
  not_all syn n lacks met = some-ne-none n (sym lacks ∙ (lack_exactly own syn none).1 (demands.all_met met))

  all_of : (syn : Segment) → FirstUnmet own syn none → Meets own syn
  all_of syn (demands.all_met met) = met

  pub seventeen_exactly : (profiled_by own clock i).opening.number ≡ 17 ↔ Unmet
  seventeen_exactly = (refused, λ u. refuses u (lack_in own.offers u.syn) refl)
    where
      refused : (profiled_by own clock i).opening.number ≡ 17 → Unmet
      refused =
          profiled_cases (λ a. a.opening.number ≡ 17 → Unmet) own clock i (λ e. absurd (omega (arith, opening_most own clock i)))
          (λ opens syn is n lacks _. record { opens = opens; syn = syn; is = is; one_not_met = not_all syn n lacks })

      refuses : (u : Unmet) (o : Option ℕ) → lack_in own.offers u.syn ≡ o → (profiled_by own clock i).opening.number ≡ 17
      refuses u none meets = absurd (u.one_not_met (all_of u.syn ((lack_exactly own u.syn none).0 meets)))
      refuses u (some n) lacks =
          let first = (lack_exactly own u.syn (some n)).0 lacks in
          ap (λ (a : Profiled). a.opening.number) (lacking_refused u.opens u.syn u.is n first)

-- Demands 2 and 3 hold over both ways of opening: the claims over lists, of the record that any opening gives.
module _ (way : Way) (own : Setup) (clock : ℕ) (i : Incoming) (calls : List Call) where
  abbrev opened : Connection
  opened = (opened_under way own clock i).connection

  pub both_ways : Sound (run opened calls) × ((run opened calls).timer ≡ rto.run new_timer (timer_calls opened calls))
      × (NoExpirySinceSample (timer_calls opened calls) → OnTime (run opened calls).timer.timeout (exact_run unset (timer_calls opened calls)))
      × IsLargest (run opened calls).send.largest (map (λ (r : Connection). r.send.window) (opened ∷ records_after opened calls))
  unfolding Demand3
  both_ways =
      let o = opened_any way own clock i in
      (sound_always opened o calls, timer_follows opened o calls, demand_3_in_record opened o calls, largest_window opened o calls)

-- each case of an answer shows the record and the count, or the refusal beside the blank record, or what is lacking, as it holds them
pub opening_shown : (opened : Opened) (why : OpenRefusal)
    → let held : OpeningAnswer = record { number = 0; place = none; skipped = some opened.skipped; connection = opened.connection } in
    let refused : OpeningAnswer = record { number = open_refusal_number why; place = open_refusal_place why; skipped = none; connection = blank } in
    (shown_open (Ok opened) ≡ held) × (shown_profile (Ok opened) ≡ record { opening = held; lack = none })
    × (shown_open (Err why) ≡ refused) × (shown_profile (Err (ProfileRefusal.Opening why)) ≡ record { opening = refused; lack = none })
opening_shown _ _ = (refl, refl, refl, refl)

pub lacking_shown : (lack : Lack) → shown_profile (Err (ProfileRefusal.Lacking lack))
    ≡ record { opening = record { number = 17; place = none; skipped = none; connection = blank }; lack = some (lack_value lack) }
lacking_shown lack = refl

pub outcomes_numbered : (why : OpenRefusal) (lack : Lack)
    → (profile_refusal_number (ProfileRefusal.Opening why) ≡ open_refusal_number why) × (profile_refusal_number (ProfileRefusal.Lacking lack) ≡ 17)
outcomes_numbered why lack = (refl, refl)
