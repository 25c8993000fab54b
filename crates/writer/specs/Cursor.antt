-- What the contracts of private functions cite: runs of octets that a cursor writes one after the other. No promise of the crate rests on these.
use Rattle.std.specs.Prelude.{ℕ, ◌+◌, ◌≤◌, List, ◌≡◌, length}
use Rattle.std.proofs.lemmas.List.Edits.{sets}
use Rattle.writer.specs.declared.cursor.Cursor.{Cursor}

-- a run of octets has room where the cursor stands
pub record HasRoom (c : Cursor) (run : List ℕ) : Type 0 where
  pub room : c.at + length run ≤ length c.octets.now

-- a run is written where the cursor stood, to the octets that it was lent, and it stands after the run
pub record Writes (old new : Cursor) (run : List ℕ) : Type 0 where
  pub same_reference : new.octets.ghost_name ≡ old.octets.ghost_name
  pub octets : new.octets.now ≡ sets old.octets.now old.at run
  pub next : new.at ≡ old.at + length run
