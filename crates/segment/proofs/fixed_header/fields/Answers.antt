-- Each field is read at its place. Assumes nothing.
use Rattle.segment.specs.Reading.{segment_of}
use Rattle.segment.proofs.fixed_header.fields.Goals as goal

pub returns : goal.returns
unfolding segment_of
returns c =
    rw (
      c.read.ensures,
      c.read-2.ensures,
      c.read-3.ensures,
      c.read-4.ensures,
      c.len.ensures,
      c.flags-flags.ensures,
      c.read_u8.ensures,
      c.read-5.ensures,
      c.read-6.ensures,
    )
