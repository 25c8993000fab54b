-- Request P7 of document 02 over any calls. Assumes nothing.
-- Two premises are stronger than the proof needs: that stamps never fall in sending order, and that none is 2^31 ticks ahead of TS.Recent.
use mathlib.Core.List.{List, [], ◌∷◌}
use Rattle.connection.specs.Calls.{acknowledgment, arrival, expiry, sending, window}
use Rattle.paws.specs.Claim.{EachInPlace, NoWrappedOctet, TrueValues}
use Rattle.paws.specs.History.{Sent}
use Rattle.paws.specs.Premises.{AllowedStep, Peer}
use Rattle.paws.specs.Runs.{Run, Step, Throughout, after, arrives, opened, other, ran, unstamped}
use Rattle.paws.proofs.Arrival.{after_arrival, after_unstamped, arrival_in_place, unstamped_in_place}
use Rattle.paws.proofs.Invariant.{Holds}
use Rattle.paws.proofs.Opening.{at_opening}
use Rattle.paws.proofs.OtherCalls.{after_acknowledgment, after_expiry, after_sending, after_window}
use Rattle.paws.proofs.Written.{shows}

module _ {history : List Sent} (peer : Peer history) where
  in_place : (r : Run) → Holds history r → (s : Step history) → AllowedStep r s → EachInPlace r s
  in_place r inv (arrives clock i b) allowed = arrival_in_place peer r inv clock i b allowed
  in_place r inv (unstamped clock i u) allowed = unstamped_in_place r inv clock i u
  in_place r inv (other c none) allowed = tt

  after_step : (r : Run) → Holds history r → (s : Step history) → AllowedStep r s → Holds history (after r s)
  after_step r inv (arrives clock i b) allowed = after_arrival peer r inv clock i b allowed
  after_step r inv (unstamped clock i u) allowed = after_unstamped r inv clock i u
  after_step r inv (other (arrival clock i) none) allowed = absurd none
  after_step r inv (other (sending n) none) allowed = after_sending r inv n
  after_step r inv (other (window n) none) allowed = after_window r inv n
  after_step r inv (other expiry none) allowed = after_expiry r inv
  after_step r inv (other acknowledgment none) allowed = after_acknowledgment r inv

  steps_in_place : (steps : List (Step history)) (r : Run) → Holds history r → Throughout AllowedStep r steps → Throughout EachInPlace r steps
  steps_in_place [] r inv allowed = tt
  steps_in_place (s ∷ ss) r inv allowed =
      (in_place r inv s allowed.0, steps_in_place ss (after r s) (after_step r inv s allowed.0) allowed.1)

  after_steps : (steps : List (Step history)) (r : Run) → Holds history r → Throughout AllowedStep r steps → Holds history (ran r steps)
  after_steps [] r inv allowed = inv
  after_steps (s ∷ ss) r inv allowed = after_steps ss (after r s) (after_step r inv s allowed.0) allowed.1

pub no_wrapped_octet : NoWrappedOctet
unfolding NoWrappedOctet
no_wrapped_octet history peer o counts steps allowed = steps_in_place peer steps (opened o) (at_opening o counts) allowed

pub true_values : TrueValues
unfolding TrueValues
true_values history peer o counts steps allowed = shows (ran (opened o) steps) (after_steps peer steps (opened o) (at_opening o counts) allowed)
