-- Only take changes the record (house), and a refusal is its number, with the place of the option at fault if reading gave one, and nothing
-- else. Assumes nothing.
use mathlib.Core.Bool.{true, false, false≢true}
use mathlib.Core.List.{List}
use mathlib.Core.Path.{◌≡◌, refl, sym, ap, ◌∙◌}
use Prim.Native.Nat.{ℕ}
use lib.Dec.{ltb}
use Rattle.std.specs.Prelude.{None}
use Rattle.receive.specs.Window as receive
use Rattle.segment.specs.Reading.{reading}
use Rattle.segment.specs.declared.Segment.{Segment}
use Rattle.send.specs.Send as send
use Rattle.timestamps.specs.Timestamps.{is_missing}
use Rattle.timestamps.proofs.Laws.{missing_given}
use Rattle.connection.specs.declared.Connection.{Connection}
use Rattle.connection.specs.declared.Setup.{Setup}
use Rattle.connection.specs.Numbers.{Decision, refuse}
use Rattle.connection.specs.Opening.{OpeningAnswer, exceeds_limits, is_not_syn, is_wrong_ack, opening, opening_from, opening_read, refused_opening, tsval_of}
use Rattle.connection.specs.Verdict.{decided, rows}
use Rattle.connection.specs.Arriving.{Arrival, arriving, arriving_read, is_take, judged, refusing, settled, taken_by, unchanged}
use Rattle.connection.specs.Operations.{sent, window_opened, with_receive, with_send}
use Rattle.connection.specs.Calls.{Incoming, Way, opened_by, opened_under, plain, profile, read, unread}
use Rattle.laws.proofs.Choices.{either, if_some}
use Rattle.connection.proofs.Incoming.{profiled_cases}
use Rattle.connection.proofs.Table.{arriving_cases}
use Rattle.connection.proofs.PassedOn.{place_passed, refusal_skips_none}

-- what is not taken leaves the record, and has no part, no FIN and no blocks
abbrev Leaves : Connection → Arrival → Type 0
Leaves k a = is_take a.decision.action ≡ false → a ≡ unchanged k a.decision a.place a.skipped

settled_leaves : (k : Connection) (clock : ℕ) (s : Segment) (d : Decision) → Leaves k (settled k clock s d)
unfolding settled taken_by
settled_leaves k clock s d =
    either (Leaves k) (is_take d.action) (taken_by k clock s) _ (λ _ e. absurd (false≢true (sym e))) (λ _ e. refl)

pub only_take_read : (k : Connection) (clock : ℕ) (s : Segment) → Leaves k (arriving_read k clock s)
unfolding arriving_read judged
only_take_read k clock s =
    either (Leaves k) (ltb clock k.timestamping.since) _ _ (λ _ e. refl) (λ _. settled_leaves k clock s (decided (rows k clock s)))

pub only_take : (k : Connection) (clock : ℕ) (octets : List ℕ) → Leaves k (arriving k clock octets)
unfolding arriving
only_take k clock octets = if_some (Leaves k) (reading octets).fields _ (arriving_read k clock) (λ e. refl) (only_take_read k clock)

pub refusal_leaves : (k : Connection) (clock : ℕ) (octets : List ℕ) → (arriving k clock octets).decision.action ≡ refuse
    → arriving k clock octets ≡ refusing k (arriving k clock octets).decision.number (reading octets).place
refusal_leaves k clock octets e =
    let place = place_passed k clock (unread octets) in
    let skipped = refusal_skips_none k clock (unread octets) e in
    only_take k clock octets (rw e refl)
    ∙ (λ i. unchanged k (record { number = (arriving k clock octets).decision.number; action = e i }) (place i) (skipped i))

-- where timestamps are in force, what has none is not taken: it leaves the record, and has no part
pub unstamped_left : (k : Connection) (clock : ℕ) (s : Segment) → k.timestamping.active ≡ true → s.options.timestamps ≡ None
    → ((arriving_read k clock s).connection ≡ k) × ((arriving_read k clock s).part ≡ record { from = 0; to = 0 })
unfolding rows
unstamped_left k clock s active lacks =
    arriving_cases k clock s (λ a. (a.connection ≡ k) × (a.part ≡ record { from = 0; to = 0 }))
    (λ clear.
    let none_here = ap (λ t. is_missing k.timestamping (tsval_of t) s.flags.rst) lacks in
    let no_rst = ap (is_missing k.timestamping None) (clear 26) in
    absurd (false≢true (sym (clear 21) ∙ none_here ∙ no_rst ∙ missing_given k.timestamping clock active)))
    (λ d place skipped drops. (refl, refl))

-- a refused opening, by either way, gives the blank record
abbrev Blank : OpeningAnswer → Type 0
Blank a = (a.number ≡ 0 → ⊥) → a ≡ refused_opening a.number a.place

module _ (own : Setup) (clock : ℕ) where
  opening_from_refusal : (syn : Segment) → Blank (opening_from own clock syn)
  unfolding opening_from
  opening_from_refusal syn =
      either Blank (is_not_syn syn) _ _ (λ _ e. refl)
      (λ _. either Blank (is_wrong_ack own.iss.0 syn) _ _ (λ _ e. refl) (λ _ e. absurd (e refl)))

  opening_by_refusal : (i : Incoming) → Blank (opened_by own clock i)
  unfolding opening opening_read
  opening_by_refusal (unread octets) =
      either Blank (exceeds_limits own) _ _ (λ _ e. refl)
      (λ _. if_some Blank (reading octets).fields _ (opening_from own clock) (λ e. refl) opening_from_refusal)
  opening_by_refusal (read syn) = either Blank (exceeds_limits own) _ _ (λ _ e. refl) (λ _. opening_from_refusal syn)

  pub opening_refusal : (way : Way) (i : Incoming) → Blank (opened_under way own clock i)
  opening_refusal plain i = opening_by_refusal i
  opening_refusal profile i = profiled_cases (λ a. Blank a.opening) own clock i (opening_by_refusal i) (λ _ _ _ _ _ e. refl)

-- E12 and E13 leave the record
pub sent_refusal : (k : Connection) (n : ℕ) → ((sent k n).number ≡ 0 → ⊥) → (sent k n).connection ≡ k
unfolding sent send.sent
sent_refusal k n =
    either Kept (send.exceeds_window k.send n) _ _ (λ _ e. refl) (λ _ e. absurd (e refl))
  where
    Kept : send.Answer → Type 0
    Kept a = (a.number ≡ 0 → ⊥) → with_send k a.send ≡ k

pub window_refusal : (k : Connection) (n : ℕ) → ((window_opened k n).number ≡ 0 → ⊥) → (window_opened k n).connection ≡ k
unfolding window_opened receive.window_opened
window_refusal k n =
    either Kept (receive.is_window_refused k.receive n) _ _ (λ _ e. refl) (λ _ e. absurd (e refl))
  where
    Kept : receive.Answer → Type 0
    Kept a = (a.number ≡ 0 → ⊥) → with_receive k a.receive ≡ k
