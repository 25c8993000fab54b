-- The send side: at its opening, after a segment is taken and after octets are sent, the ACKs that are dropped, and the listing rule for the
-- peer's SACK blocks (document 01, "Opening", E12 and "What taking does"; document 02, P5).
use Rattle.std.specs.Prelude.{Bool, cond, ◌&&◌, ◌||◌, ℕ, max, min, ◌+◌, ◌*◌, ◌^◌, eqb, leb, ltb, neg_ℤ, pos, Result, Ok, Err}
use Rattle.std.specs.Int.Signed.{lt_z}
use Rattle.serial.specs.Serial.{distance_of, is_at_or_before, is_before, moved_by, offset_of}
use Rattle.serial.specs.declared.Range.{Range}
use Rattle.serial.specs.declared.Seq.{Seq}
use Rattle.send.specs.declared.Send.{Send}
use Rattle.send.specs.declared.SentRefused.{SentRefused}
use Rattle.send.specs.declared.AckFields.{AckFields}

-- SND.NXT = ISS+1; UNA = ISS+1 if the SYN has ACK, else ISS. SND.WND is the window unscaled. WL1 = SEQ; WL2 = ACK if the flag is set,
-- else ISS. A shift above 14 counts as 14: an opening cuts the peer's before, and passes none. The opening value is the largest SND.WND so far.
unfoldable pub opened : ℕ → ℕ → AckFields → Bool → Send
opened iss shift syn flag = record {
  una = record { 0 = cond flag (moved_by iss 1) iss };
  nxt = record { 0 = moved_by iss 1 };
  window = syn.window;
  largest = syn.window;
  shift = min shift 14;
  wl1 = syn.seq;
  wl2 = record { 0 = cond flag syn.ack.0 iss };
}

-- (NXT - UNA) mod 2^32
abbrev pub outstanding : Send → ℕ
outstanding s = offset_of s.una.0 s.nxt.0

-- verdict 29: SND.NXT before ACK
abbrev pub is_unsent : Send → ℕ → Bool
is_unsent s ack = is_before s.nxt.0 ack

-- verdict 31: ACK is more octets before UNA than the largest SND.WND, by the serial distance; from UNA to an ACK 2^31 away it is -2^31
unfoldable pub is_too_old : Send → ℕ → Bool
is_too_old s ack = lt_z (distance_of s.una.0 ack) (neg_ℤ (pos s.largest))

-- document 01's "new": ACK is new if 0 < (ACK - UNA) mod 2^32 <= (NXT - UNA) mod 2^32
unfoldable pub is_new : Send → ℕ → Bool
is_new s ack = ltb 0 (offset_of s.una.0 ack) && leb (offset_of s.una.0 ack) (outstanding s)

-- then UNA = ACK
unfoldable pub acknowledged : Send → Seq → Send
acknowledged s ack = record {
  una = cond (is_new s ack.0) ack s.una;
  nxt = s.nxt;
  window = s.window;
  largest = s.largest;
  shift = s.shift;
  wl1 = s.wl1;
  wl2 = s.wl2;
}

-- ACK is new or equal to UNA
unfoldable pub is_current : Send → ℕ → Bool
is_current s ack = is_new s ack || eqb ack s.una.0

-- WL1 is before SEQ, or equal with WL2 at or before ACK
unfoldable pub is_later : Send → AckFields → Bool
is_later s fields =
    is_before s.wl1.0 fields.seq.0 || (eqb s.wl1.0 fields.seq.0 && is_at_or_before s.wl2.0 fields.ack.0)

unfoldable pub updates_window : Send → AckFields → Bool
updates_window s fields = is_current s fields.ack.0 && is_later s fields

-- SND.WND = window x 2^(snd shift), WL1 = SEQ, WL2 = ACK; the largest SND.WND so far is never lowered
unfoldable pub windowed : Send → AckFields → Send
windowed s fields = record {
  una = s.una;
  nxt = s.nxt;
  window = fields.window * 2 ^ s.shift;
  largest = max s.largest (fields.window * 2 ^ s.shift);
  shift = s.shift;
  wl1 = fields.seq;
  wl2 = fields.ack;
}

-- whether the window is updated goes by UNA before the take
unfoldable pub taken : Send → AckFields → Send
taken s fields = cond (updates_window s fields) (windowed (acknowledged s fields.ack) fields) (acknowledged s fields.ack)

-- E12: noting n sent octets with (NXT - UNA) + n above SND.WND
unfoldable pub exceeds_window : Send → ℕ → Bool
exceeds_window s n = ltb s.window (outstanding s + n)

-- noting n octets adds n to SND.NXT, and changes nothing else
abbrev pub with_sent : Send → ℕ → Send
with_sent s n = record {
  una = s.una;
  nxt = record { 0 = moved_by s.nxt.0 n };
  window = s.window;
  largest = s.largest;
  shift = s.shift;
  wl1 = s.wl1;
  wl2 = s.wl2;
}

-- an answer in document 01's terms: 0 or the refusal's number, and the send side afterwards
pub record Answer : Type 0 where
  pub number : ℕ
  pub send : Send

unfoldable pub sent : Send → ℕ → Answer
sent s n = cond (exceeds_window s n) (record { number = 12; send = s }) (record { number = 0; send = with_sent s n })

abbrev pub number_of : SentRefused → ℕ
number_of why = 12

abbrev pub shown : Send → Result Send SentRefused → Answer
shown s (Ok t) = record { number = 0; send = t }
shown s (Err why) = record { number = number_of why; send = s }

-- with a = (left - UNA), b = (right - UNA), c = (NXT - UNA), each mod 2^32, a block is kept exactly if 0 < a < b <= c
unfoldable pub is_listed : Send → Range → Bool
is_listed s block =
    let a = offset_of s.una.0 block.left.0 in
    let b = offset_of s.una.0 block.right.0 in
    let c = outstanding s in
    ltb 0 a && (ltb a b && leb b c)
