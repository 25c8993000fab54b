-- Request P7 of document 02, its claim: "every octet of a taken new part has the true number of the place that it is given, counted on from
-- the SYN"; and beside it what the record and our acknowledgments show of the true values in it.
use Rattle.std.specs.Prelude.{List, ◌≡◌, ℕ, ◌+◌, ◌*◌, ◌%◌, ◌^◌, ◌≤◌, ◌<◌, max, take}
use Rattle.std.proofs.Math.Option.{some}
use Rattle.serial.specs.Serial.{moved_by, offset_of}
use Rattle.segment.specs.Reading.{reading}
use Rattle.segment.specs.declared.Segment.{Segment}
use Rattle.writer.specs.declared.Ports.{Ports}
use Rattle.connection.specs.Calls.{acknowledgment, arrived, called}
use Rattle.connection.specs.declared.Connection.{Connection}
use Rattle.acknowledgment.specs.Acknowledgment.{Answer, acknowledging}
use Rattle.paws.specs.History.{Sent}
use Rattle.paws.specs.Premises.{AllowedStep, Peer, SynCounts}
use Rattle.paws.specs.Runs.{Opening, Run, Step, Throughout, arrives, edge_after, opened, other, ran, unstamped}

-- which octet of a segment at SEQ is given the place at offset o from RCV.NXT: octet j, where SEQ + j is the place's sequence number
unfoldable pub octet_at : Connection → ℕ → ℕ → ℕ
octet_at k seq o = offset_of seq (moved_by k.receive.nxt.0 o)

-- it is one of the segment's, and its true number is that of the place
pub record InPlace (r : Run) (seq : ℕ) (p : Sent) (o : ℕ) : Type 0 where
  pub within : octet_at r.now seq o < p.len
  pub true_number : p.start + octet_at r.now seq o ≡ r.nxt + o

-- Each octet of the new part in the answer, which is empty where the segment is not taken. What is no segment of the history leaves the
-- record, and has no new part.
abbrev pub EachInPlace : {history : List Sent} → Run → Step history → Type 0
EachInPlace r (arrives clock i b) =
    (o : ℕ) → (arrived r.now clock i).part.from ≤ o → o < (arrived r.now clock i).part.to → InPlace r b.fields.seq.0 b.sent o
EachInPlace r (unstamped clock i u) =
    ((arrived r.now clock i).connection ≡ r.now) × ((arrived r.now clock i).part ≡ record { from = 0; to = 0 })
EachInPlace r (other c none) = Unit

-- an acknowledgment that is written is the call of that name; it reads back with the ACK and the window field from which the edge is worked
pub record Writes (r : Run) (a : Answer) : Type 0 where
  pub is_call : a.connection ≡ called r.now acknowledgment
  pub fields : Segment
  pub reads : (reading (take a.length a.buffer)).fields ≡ some fields
  pub ack : fields.ack.0 ≡ r.nxt % 2 ^ 32
  pub edge : edge_after r acknowledgment ≡ max r.edge (r.nxt + fields.window * 2 ^ r.now.receive.shift)

-- RCV.NXT and TS.Recent are the true number and the true stamp modulo 2^32
pub record Shows (r : Run) : Type 0 where
  pub nxt : r.now.receive.nxt.0 ≡ r.nxt % 2 ^ 32
  pub recent : r.now.timestamping.recent.0 ≡ r.recent % 2 ^ 32
  pub writes : (ports : Ports) (clock : ℕ) (buffer : List ℕ) → (acknowledging r.now ports clock buffer).number ≡ 0
      → Writes r (acknowledging r.now ports clock buffer)

-- over any calls on a record that is opened from a SYN of the history, whose arrivals the premises allow
abbrev pub UnderPremises : ((history : List Sent) → Run → List (Step history) → Type 0) → Type 0
UnderPremises Q =
    (history : List Sent) → Peer history → (o : Opening history) → SynCounts o.segment o.syn.sent → (steps : List (Step history))
    → Throughout AllowedStep (opened o) steps → Q history (opened o) steps

unfoldable pub NoWrappedOctet : Type 0
NoWrappedOctet = UnderPremises (λ history r steps. Throughout EachInPlace r steps)

unfoldable pub TrueValues : Type 0
TrueValues = UnderPremises (λ history r steps. Shows (ran r steps))
