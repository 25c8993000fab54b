-- The receive side after a part is taken (document 01, "What taking does"), and after an acknowledgment is written.
use Rattle.std.specs.Prelude.{cond, ℕ, ◌-◌, eqb}
use Rattle.serial.specs.Serial.{moved_by}
use Rattle.receive.specs.declared.Part.{Part}
use Rattle.receive.specs.declared.Receive.{Receive}
use Rattle.receive.specs.Ranges.{held_of, joined, ranges_after, ranges_of, unmet}

-- how far a part starting at 0 advances RCV.NXT: to its end and on through each range that it meets or touches
abbrev pub advance : Receive → Part → ℕ
advance r p = (joined r.nxt.0 p (ranges_of r.held)).to

-- those ranges leave, and the right window edge stays
unfoldable pub advanced : Receive → Part → Receive
advanced r p = record {
  nxt = record { 0 = moved_by r.nxt.0 (advance r p) };
  window = r.window - advance r p;
  shift = r.shift;
  acked = r.acked;
  held = held_of (unmet r.nxt.0 p (ranges_of r.held));
}

-- another part goes among the ranges
unfoldable pub holding : Receive → Part → Receive
holding r p = record {
  nxt = r.nxt;
  window = r.window;
  shift = r.shift;
  acked = r.acked;
  held = held_of (ranges_after r.nxt.0 p (ranges_of r.held));
}

unfoldable pub taken : Receive → Part → Receive
taken r p = cond (eqb p.from 0) (advanced r p) (holding r p)

-- an acknowledgment written: Last.ACK.sent = RCV.NXT
abbrev pub acknowledged : Receive → Receive
acknowledged r = record { nxt = r.nxt; window = r.window; shift = r.shift; acked = r.nxt; held = r.held }
