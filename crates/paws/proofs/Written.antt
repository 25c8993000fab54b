-- What the record, and an acknowledgment that is written, show of a run's true values. Assumes nothing.
use mathlib.Core.List.{List}
use mathlib.Core.Path.{◌≡◌, refl, ap}
use Prim.Native.Nat.{ℕ}
use Rattle.segment.specs.Reading as reader
use Rattle.segment.specs.declared.Segment.{Segment}
use Rattle.writer.specs.declared.Ports.{Ports}
use Rattle.acknowledgment.specs.Acknowledgment.{acknowledging}
use Rattle.acknowledgment.specs.ReadBack.{own_segment}
use Rattle.acknowledgment.proofs.Answers.{is_call, written_exactly}
use Rattle.acknowledgment.proofs.ReadBack.{read_back}
use Rattle.paws.specs.Claim.{Shows, Writes}
use Rattle.paws.specs.History.{Sent}
use Rattle.paws.specs.Runs.{Run}
use Rattle.paws.proofs.Invariant.{Holds}

module _ {history : List Sent} (r : Run) (inv : Holds history r) where
  writes : (ports : Ports) (clock : ℕ) (buffer : List ℕ) → (acknowledging r.now ports clock buffer).number ≡ 0
      → Writes r (acknowledging r.now ports clock buffer)
  unfolding own_segment
  writes ports clock buffer written =
      let on = (written_exactly r.now ports clock buffer).0 written in
      record {
        is_call = is_call r.now ports clock buffer written;
        fields = own_segment r.now ports clock;
        reads = ap (λ (a : reader.Answer Segment). a.fields) (read_back r.now ports clock buffer on.0 on.1);
        ack = inv.nxt_is;
        edge = refl;
      }

  pub shows : Shows r
  shows = record { nxt = inv.nxt_is; recent = inv.recent_is; writes = writes }
