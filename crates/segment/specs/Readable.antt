-- What holds of every segment that is read, for callers that do not open the reader's definitions.
use Rattle.std.specs.Prelude.{ℕ, ◌+◌, ◌≤◌, List, ◌≡◌, length}
use Rattle.segment.specs.Reading.{len_of}
use Rattle.segment.specs.SackBlocks.{held}
use Rattle.segment.specs.declared.Segment.{Segment}

pub record Readable (s : List ℕ) (w : Segment) : Type 0 where
  pub long : 20 ≤ length s
  pub short : length s ≤ 65535
  -- the payload starts after the fixed header and runs to the segment's end
  pub start_least : 20 ≤ w.payload.start
  pub start_most : w.payload.start ≤ length s
  pub payload_rest : w.payload.start + w.payload.length ≡ length s
  pub len_is : w.len ≡ len_of w.payload.length w.flags
  pub len_most : w.len ≤ 65517
  pub blocks_most : length (held w.options.blocks) ≤ 4
