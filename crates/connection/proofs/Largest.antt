-- The stored largest SND.WND is the largest that the record had, over any list of calls (document 02, P5). Assumes nothing.
use mathlib.Core.List.{List, [], ◌∷◌, ◌++◌, map}
use mathlib.Core.Path.{◌≡◌, refl, ap, subst}
use Prim.Native.Nat.{ℕ}
use Rattle.laws.specs.Lists.{IsLargest}
use Rattle.laws.proofs.Largest.{largest_one, largest_two}
use Rattle.send.specs.Send as send
use Rattle.send.proofs.Largest.{Raises, same_raises, sent_raises, taken_raises}
use Rattle.connection.specs.declared.Connection.{Connection}
use Rattle.connection.specs.Record.{Sound, blank}
use Rattle.connection.specs.Opening.{ack_fields_of, record_from, record_with}
use Rattle.connection.specs.Taking.{record_after}
use Rattle.connection.specs.Operations.{acknowledged, expired, sent, window_opened}
use Rattle.connection.specs.Calls.{Call, Opened, acknowledgment, arrival, called, expiry, records_after, run, sending, window}
use Rattle.connection.specs.Demand.{LargestWindow}
use Rattle.connection.specs.Cases.{base, cases, rising}
use Rattle.connection.proofs.Cases.{base_opened}
use Rattle.connection.proofs.Incoming.{arrived_cases, opened_holds}
use Rattle.connection.proofs.Runs.{called_sound, sound_always}

-- a call gives the larger of the largest before and the window now
module _ (k : Connection) (h : Sound k) where
  stays : Raises k.send k.send
  stays = same_raises k.send h.send_sound

  called_raises : (c : Call) → Raises k.send (called k c).send
  unfolding record_after sent window_opened expired acknowledged
  called_raises (arrival clock i) =
      arrived_cases (λ (r : Connection). Raises k.send r.send) k stays clock i
      (λ s _. taken_raises k.send h.send_sound (ack_fields_of s))
  called_raises (sending n) = sent_raises k.send h.send_sound n
  called_raises (window n) = stays
  called_raises expiry = stays
  called_raises acknowledgment = stays

abbrev windows : List Connection → List ℕ
windows records = map (λ (r : Connection). r.send.window) records

run_largest : (calls : List Call) (k : Connection) → Sound k
    → IsLargest (run k calls).send.largest (k.send.largest ∷ windows (records_after k calls))
run_largest [] k h = largest_one k.send.largest
run_largest (c ∷ cs) k h =
    let later = run_largest cs (called k c) (called_sound k c h) in
    largest_two (run k (c ∷ cs)).send.largest k.send.largest (called k c).send.window (windows (records_after (called k c) cs))
    (subst (λ n. IsLargest (run k (c ∷ cs)).send.largest (n ∷ windows (records_after (called k c) cs))) (called_raises k h c) later)

-- the records after each call are all that the calls give: one more call, one more record
pub records_last : (k : Connection) (cs : List Call) (c : Call) → records_after k (cs ++ (c ∷ [])) ≡ records_after k cs ++ (run k (cs ++ (c ∷ [])) ∷ [])
records_last k [] c = refl
records_last k (d ∷ cs) c = ap (λ later. called k d ∷ later) (records_last (called k d) cs c)

-- at an opening, a refused one too, it is the window
opened_starts : (k : Connection) → Opened k → k.send.largest ≡ k.send.window
unfolding record_from record_with blank send.opened
opened_starts k o = opened_holds (λ (r : Connection). r.send.largest ≡ r.send.window) refl k o (λ _ _. refl)

pub largest_window : LargestWindow
largest_window k o calls =
    subst (λ n. IsLargest (run k calls).send.largest (n ∷ windows (records_after k calls))) (opened_starts k o)
    (run_largest calls k (sound_always k o []))

-- the claim at a record whose window goes up from 9 to 20, then down to 5
largest_worked : IsLargest 20 (9 ∷ 20 ∷ 5 ∷ [])
largest_worked =
    subst (λ n. IsLargest n (9 ∷ 20 ∷ 5 ∷ [])) cases.7
    (subst (IsLargest (run base rising).send.largest) cases.6 (largest_window base base_opened rising))
