-- The window test and the new part of a segment (document 01, "Verdicts, in this order" and "What taking does"), and opening the window
-- (E13). A segment is given by SEQ and LEN.
use Rattle.std.specs.Prelude.{Bool, false, cond, not, ◌&&◌, ◌||◌, [], ℕ, ◌+◌, ◌-◌, ◌*◌, ◌^◌, min, eqb, leb, ltb, Result, Ok, Err}
use Rattle.serial.specs.Serial.{moved_by, offset_of}
use Rattle.receive.specs.declared.Part.{Part}
use Rattle.receive.specs.declared.Receive.{Receive}
use Rattle.receive.specs.declared.WindowRefused.{WindowRefused}
use Rattle.receive.specs.Ranges.{held_of, lies_in, no_room, ranges_of}

-- RCV.NXT = Last.ACK.sent, and no ranges are held. A first window above 65,535 counts as 65,535, and a shift above 14 as 14: E9 lets
-- neither pass.
unfoldable pub opened : ℕ → ℕ → ℕ → Receive
opened nxt window shift = record {
  nxt = record { 0 = nxt };
  window = min window 65535;
  shift = min shift 14;
  acked = record { 0 = nxt };
  held = held_of [];
}

-- o(SEQ) and o(SEQ + LEN - 1), where o(x) = (x - RCV.NXT) mod 2^32
abbrev pub first_offset : Receive → ℕ → ℕ
first_offset r seq = offset_of r.nxt.0 seq

abbrev pub last_offset : Receive → ℕ → ℕ → ℕ
last_offset r seq len = offset_of r.nxt.0 (moved_by seq (len - 1))

-- document 01's "acceptable": LEN 0, window 0: SEQ = RCV.NXT. LEN 0, window above 0: o(SEQ) < window. LEN above 0, window 0: no.
-- Otherwise o(SEQ) or o(SEQ + LEN - 1) is below the window.
unfoldable pub acceptable : Receive → ℕ → ℕ → Bool
acceptable r seq len =
    cond (eqb len 0)
    (cond (eqb r.window 0) (eqb seq r.nxt.0) (ltb (first_offset r seq) r.window))
    (cond (eqb r.window 0) false (ltb (first_offset r seq) r.window || ltb (last_offset r seq len) r.window))

-- where the new part starts and ends: from o(SEQ) if below the window, else 0; to the end of the segment or the window, whichever comes
-- first
abbrev pub part_start : Receive → ℕ → ℕ
part_start r seq = cond (ltb (first_offset r seq) r.window) (first_offset r seq) 0

abbrev pub part_end : Receive → ℕ → ℕ → ℕ
part_end r seq len = min (last_offset r seq len + 1) r.window

-- what has an empty part: LEN 0, a segment that is not acceptable, and one whose part would end at or before its start
abbrev pub has_no_part : Receive → ℕ → ℕ → Bool
has_no_part r seq len = eqb len 0 || (not (acceptable r seq len) || leb (part_end r seq len) (part_start r seq))

-- which is at offset 0
abbrev pub empty_part : Part
empty_part = record { from = 0; to = 0 }

-- document 01's "new part", as offsets from RCV.NXT
unfoldable pub new_part : Receive → ℕ → ℕ → Part
new_part r seq len = cond (has_no_part r seq len) empty_part (record { from = part_start r seq; to = part_end r seq len })

-- FIN counts as the segment's last number: whether there is one, and it lies in the new part
unfoldable pub fin_inside : Receive → ℕ → ℕ → Bool → Bool
fin_inside r seq len fin = fin && lies_in (new_part r seq len) (last_offset r seq len)

-- verdict 30, of the new part and the ranges held
unfoldable pub lacks_room : Receive → ℕ → ℕ → Bool
lacks_room r seq len = no_room r.nxt.0 (new_part r seq len) (ranges_of r.held)

-- E13: new receive window below the present one, or above 65,535 x 2^rcv shift
unfoldable pub is_window_refused : Receive → ℕ → Bool
is_window_refused r window = ltb window r.window || ltb (65535 * 2 ^ r.shift) window

-- opening the window sets the receive window to the new one, and changes nothing else
abbrev pub with_window : Receive → ℕ → Receive
with_window r window = record { nxt = r.nxt; window = window; shift = r.shift; acked = r.acked; held = r.held }

-- an answer in document 01's terms: 0 or the refusal's number, and the receive side afterwards
pub record Answer : Type 0 where
  pub number : ℕ
  pub receive : Receive

unfoldable pub window_opened : Receive → ℕ → Answer
window_opened r window =
    cond (is_window_refused r window) (record { number = 13; receive = r }) (record { number = 0; receive = with_window r window })

abbrev pub number_of : WindowRefused → ℕ
number_of why = 13

abbrev pub shown : Receive → Result Receive WindowRefused → Answer
shown r (Ok t) = record { number = 0; receive = t }
shown r (Err why) = record { number = number_of why; receive = r }
