-- What holds of every receive side that the operations give back.
use Rattle.std.specs.Prelude.{◌⊎◌, ◌≡◌, List, ℕ, ◌*◌, ◌^◌, ◌≤◌, ◌<◌, length}
use Rattle.serial.specs.declared.Range.{Range}
use Rattle.receive.specs.declared.Held.{Held}
use Rattle.receive.specs.declared.Receive.{Receive}
use Rattle.laws.specs.Lists.{Each, EachTwo}
use Rattle.receive.specs.Ranges.{held_of, left_of, ranges_of, right_of}

-- at most eight ranges, and unused slots all alike
pub record Canonical (held : Held) : Type 0 where
  pub few : held.count ≤ 8
  pub form : held ≡ held_of (ranges_of held)

-- not empty, above RCV.NXT and within the window
pub record Inside (nxt window : ℕ) (r : Range) : Type 0 where
  pub above : 0 < left_of nxt r
  pub filled : left_of nxt r < right_of nxt r
  pub within : right_of nxt r ≤ window

-- neither overlapping nor adjacent
abbrev pub Apart : ℕ → Range → Range → Type 0
Apart nxt r s = (right_of nxt r < left_of nxt s) ⊎ (right_of nxt s < left_of nxt r)

pub record SoundRanges (nxt window : ℕ) (ranges : List Range) : Type 0 where
  pub few : length ranges ≤ 8
  pub inside : Each (Inside nxt window) ranges
  pub apart : EachTwo (Apart nxt) ranges

-- RCV.NXT is a sequence number, and the window is one that E13 lets pass
pub record Sound (r : Receive) : Type 0 where
  pub nxt_below : r.nxt.0 < 2 ^ 32
  pub shift_most : r.shift ≤ 14
  pub window_most : r.window ≤ 65535 * 2 ^ r.shift
  pub canonical : Canonical r.held
  pub ranges : SoundRanges r.nxt.0 r.window (ranges_of r.held)
