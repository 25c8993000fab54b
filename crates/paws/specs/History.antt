-- What the peer sent, in true, unbounded numbers, and how a segment of it comes in (document 02, P7).
use mathlib.Core.List.{List, Memᴰ}
use Rattle.std.proofs.Math.Option.{none, some}
use Rattle.std.specs.Prelude.{◌≡◌, ℕ, ◌+◌, ◌%◌, ◌^◌, ◌≤◌, ◌<◌, None, Some}
use Rattle.serial.specs.declared.Stamp.{Stamp}
use Rattle.segment.specs.declared.Segment.{Segment}
use Rattle.connection.specs.Calls.{Incoming, fields_of}

-- a segment as the peer sent it: the true number of its first octet, LEN, and its true stamp
pub record Sent : Type 0 where
  pub start : ℕ
  pub len : ℕ
  pub stamp : ℕ

-- the true number n is one of the segment's
abbrev pub Has : Sent → ℕ → Type 0
Has p n = (p.start ≤ n) × (n < p.start + p.len)

-- a history lists the segments in sending order; this is one of them
abbrev pub In : List Sent → Sent → Type 0
In history p = Memᴰ p history

-- what comes in is a segment of the history: it reads, SEQ and TSval are the true ones modulo 2^32, and LEN is the true one
pub record Brings (history : List Sent) (i : Incoming) : Type 0 where
  pub sent : Sent
  pub in_history : In history sent
  pub fields : Segment
  pub reads : fields_of i ≡ some fields
  pub seq : fields.seq.0 ≡ sent.start % 2 ^ 32
  pub len : fields.len ≡ sent.len
  pub echoed : Stamp
  pub stamp : fields.options.timestamps ≡ Some (record { value = record { 0 = sent.stamp % 2 ^ 32 }; echoed = echoed })

-- what comes in does not read, or has no timestamps
pub data Unstamped (i : Incoming) : Type 0 where
  unreadable : fields_of i ≡ none → Unstamped i
  without : (s : Segment) → fields_of i ≡ some s → s.options.timestamps ≡ None → Unstamped i
