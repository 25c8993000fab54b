-- What request P7 of document 02 supposes: its five conditions in its order, and that a SYN counts in its LEN.
use Rattle.std.specs.Prelude.{false, List, ◌≡◌, ℕ, ◌+◌, ◌^◌, ◌≤◌, ◌<◌}
use Rattle.laws.specs.Lists.{EachTwo}
use Rattle.timestamps.specs.Timestamps.{outdated}
use Rattle.connection.specs.Calls.{Incoming, read, unread}
use Rattle.paws.specs.History.{Has, In, Sent}
use Rattle.paws.specs.Runs.{Run, Step, arrives, other, unstamped}

-- of the history
pub record Peer (history : List Sent) : Type 0 where
  -- "Stamps never fall in sending order"
  pub never_fall : EachTwo (λ (p q : Sent). p.stamp ≤ q.stamp) history
  -- "no segment starts 2^30 or more below the highest number ever sent with a stamp not above its own": nor below any other sent so
  pub starts_near : (s p : Sent) (n : ℕ) → In history s → In history p → p.stamp ≤ s.stamp → Has p n → n < s.start + 2 ^ 30

-- of a segment of the history and the run that it finds when it arrives
pub record Allowed (r : Run) (clock : ℕ) (p : Sent) : Type 0 where
  -- "none passes the highest right edge that we had written when it arrives"; LEN 0 sends no number
  pub within_edge : (n : ℕ) → Has p n → n < r.edge
  -- "every arriving true stamp is less than 2^31 ticks from the true stamp in TS.Recent"
  pub not_ahead : p.stamp < r.recent + 2 ^ 31
  pub not_behind : r.recent < p.stamp + 2 ^ 31
  -- "no arrival meets an outdated TS.Recent"
  pub not_outdated : outdated r.now.timestamping clock ≡ false

-- of what is no segment of the history, and of the other calls, nothing
abbrev pub AllowedStep : {history : List Sent} → Run → Step history → Type 0
AllowedStep r (arrives clock i b) = Allowed r clock b.sent
AllowedStep r (unstamped clock i u) = Unit
AllowedStep r (other c none) = Unit

-- document 01: "LEN = payload octets, plus 1 for SYN, plus 1 for FIN". Of a SYN that is read from its octets this is proved; fields that
-- were read before may have any LEN.
abbrev pub SynCounts : Incoming → Sent → Type 0
SynCounts (unread octets) p = Unit
SynCounts (read s) p = 1 ≤ p.len
