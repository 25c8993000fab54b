-- What document 01 says of the send side, apart from the definitions: what each test decides, what is moved, and what stays. Of the largest
-- window `Largest` has the rest. Assumes nothing.
use mathlib.Core.Bool.{Bool, true, false}
use mathlib.Core.Logic.{◌↔◌, ◌∨₁◌}
use mathlib.Core.Path.{◌≡◌, refl, sym, ap, subst, ◌∙◌}
use Prim.Native.Nat.{ℕ, ◌+◌, ◌*◌, ◌%◌, ◌^◌, ◌<◌, ◌≤◌}
use native.Mathlib.Omega.{arith}
use borrow.Author.Tests.{le-ltb, lt-ltb}
use Rattle.laws.proofs.Choices.{either}
use Rattle.laws.proofs.Tests.{at_most, below, both, chosen, equal, one}
use Rattle.serial.specs.Serial.{moved_by, offset_of}
use Rattle.serial.specs.declared.Range.{Range}
use Rattle.serial.proofs.Distance.{neither_before}
use Rattle.serial.proofs.Offset.{offset_moved, offset_self}
use Rattle.serial.proofs.Order.{AtOrBefore, Before, at_or_before_exactly, before_exactly}
use Rattle.send.specs.Send.{Answer, acknowledged, exceeds_window, is_current, is_later, is_listed, is_new, is_unsent, opened, sent, taken, updates_window, windowed}
use Rattle.send.specs.declared.AckFields.{AckFields}
use Rattle.send.specs.declared.Send.{Send}
use Rattle.send.proofs.Refusal.{sent_moves, sent_refusal_leaves}

module _ (iss shift : ℕ) (syn : AckFields) where
  -- SND.NXT = ISS+1, SND.WND is the window unscaled, and the largest so far, WL1 = SEQ
  pub opened_always : (flag : Bool) → let s = opened iss shift syn flag in
      (s.nxt.0 ≡ (iss + 1) % 2 ^ 32) × (s.window ≡ syn.window) × (s.largest ≡ syn.window) × (s.wl1 ≡ syn.seq)
  unfolding opened
  opened_always flag = (refl, refl, refl, refl)

  -- UNA = ISS+1 if the SYN has ACK, else ISS; WL2 = ACK if the flag is set, else ISS
  pub opened_with_ack : let s = opened iss shift syn true in (s.una.0 ≡ (iss + 1) % 2 ^ 32) × (s.wl2 ≡ syn.ack)
  unfolding opened
  opened_with_ack = (refl, refl)

  pub opened_without_ack : let s = opened iss shift syn false in (s.una.0 ≡ iss) × (s.wl2.0 ≡ iss)
  unfolding opened
  opened_without_ack = (refl, refl)

  -- our SYN is the one number outstanding until it is acknowledged
  pub syn_outstanding : (offset_of (opened iss shift syn true).una.0 (opened iss shift syn true).nxt.0 ≡ 0)
      × (offset_of (opened iss shift syn false).una.0 (opened iss shift syn false).nxt.0 ≡ 1)
  unfolding opened
  syn_outstanding = (offset_self (moved_by iss 1), offset_moved iss 1 (omega arith))

  -- the shift is the one that is given, or 14 if that is above
  pub opened_shift : (flag : Bool) → shift ≤ 14 → (opened iss shift syn flag).shift ≡ shift
  unfolding opened
  opened_shift flag small = omega arith

  pub opened_shift_cut : (flag : Bool) → 14 ≤ shift → (opened iss shift syn flag).shift ≡ 14
  unfolding opened
  opened_shift_cut flag large = omega arith

module _ (s : Send) where
  -- 29: SND.NXT before ACK; not at 2^31 apart
  pub unsent_exactly : (ack : ℕ) → is_unsent s ack ≡ true ↔ Before s.nxt.0 ack
  unsent_exactly ack = before_exactly s.nxt.0 ack

  pub half_way_not_unsent : (ack : ℕ) → offset_of s.nxt.0 ack ≡ 2 ^ 31 → is_unsent s ack ≡ false
  half_way_not_unsent ack apart = (neither_before s.nxt.0 ack apart).0

  -- ACK is new if 0 < (ACK-UNA) mod 2^32 <= (NXT-UNA) mod 2^32
  abbrev pub New : ℕ → Type 0
  New ack = (0 < offset_of s.una.0 ack) × (offset_of s.una.0 ack ≤ offset_of s.una.0 s.nxt.0)

  pub new_exactly : (ack : ℕ) → is_new s ack ≡ true ↔ New ack
  unfolding is_new
  new_exactly ack =
      both _ _ (below 0 (offset_of s.una.0 ack)) (at_most (offset_of s.una.0 ack) (offset_of s.una.0 s.nxt.0))

  -- with a = (left-UNA), b = (right-UNA), c = (NXT-UNA), each mod 2^32, a block is kept exactly if 0 < a < b <= c
  pub listed_exactly : (block : Range) → let a = offset_of s.una.0 block.left.0 in
      let b = offset_of s.una.0 block.right.0 in
      let c = offset_of s.una.0 s.nxt.0 in
      is_listed s block ≡ true ↔ (0 < a) × (a < b) × (b ≤ c)
  unfolding is_listed
  listed_exactly block =
      let a = offset_of s.una.0 block.left.0 in
      let b = offset_of s.una.0 block.right.0 in
      let c = offset_of s.una.0 s.nxt.0 in
      let tests : is_listed s block ≡ true ↔ (0 < a) × ((a < b) × (b ≤ c)) = both _ _ (below 0 a) (both _ _ (below a b) (at_most b c)) in
      (λ t. let h = tests.0 t in (h.0, h.1.0, h.1.1), λ h. tests.1 (h.0, (h.1, h.2)))

-- a take of a segment with these fields
module _ (s : Send) (fields : AckFields) where
  -- ACK is new or equal to UNA, and WL1 is before SEQ, or equal with WL2 at or before ACK
  abbrev pub Current : Type 0
  Current = New s fields.ack.0 ∨₁ (fields.ack.0 ≡ s.una.0)

  abbrev pub Later : Type 0
  Later = Before s.wl1.0 fields.seq.0 ∨₁ ((s.wl1.0 ≡ fields.seq.0) × AtOrBefore s.wl2.0 fields.ack.0)

  current_exactly : is_current s fields.ack.0 ≡ true ↔ Current
  unfolding is_current
  current_exactly = one _ _ (new_exactly s fields.ack.0) (equal fields.ack.0 s.una.0)

  later_exactly : is_later s fields ≡ true ↔ Later
  unfolding is_later
  later_exactly =
      one _ _ (before_exactly s.wl1.0 fields.seq.0)
      (both _ _ (equal s.wl1.0 fields.seq.0) (at_or_before_exactly s.wl2.0 fields.ack.0))

  updates_exactly : updates_window s fields ≡ true ↔ Current × Later
  unfolding updates_window
  updates_exactly = both _ _ current_exactly later_exactly

  -- if ACK is new, UNA = ACK; otherwise UNA stays
  una_apart : (taken s fields).una ≡ (acknowledged s fields.ack).una
  unfolding taken windowed
  una_apart = either (λ (t : Send). t.una ≡ (acknowledged s fields.ack).una) (updates_window s fields) _ _ (λ _. refl) (λ _. refl)

  acknowledging : (New s fields.ack.0 → (acknowledged s fields.ack).una ≡ fields.ack)
      × (¬ New s fields.ack.0 → (acknowledged s fields.ack).una ≡ s.una)
  unfolding acknowledged
  acknowledging = chosen (is_new s fields.ack.0) fields.ack s.una (new_exactly s fields.ack.0)

  pub una_moves : New s fields.ack.0 → (taken s fields).una ≡ fields.ack
  una_moves new = una_apart ∙ acknowledging.0 new

  pub una_stays : ¬ New s fields.ack.0 → (taken s fields).una ≡ s.una
  una_stays old = una_apart ∙ acknowledging.1 old

  -- where both hold, SND.WND = window x 2^(snd shift), WL1 = SEQ, WL2 = ACK; otherwise all three stay
  windowing : (Current × Later → taken s fields ≡ windowed (acknowledged s fields.ack) fields)
      × (¬ (Current × Later) → taken s fields ≡ acknowledged s fields.ack)
  unfolding taken
  windowing = chosen (updates_window s fields) (windowed (acknowledged s fields.ack) fields) (acknowledged s fields.ack) updates_exactly

  pub window_moves : Current × Later → let t = taken s fields in
      (t.window ≡ fields.window * 2 ^ s.shift) × (t.wl1 ≡ fields.seq) × (t.wl2 ≡ fields.ack)
  unfolding windowed acknowledged
  window_moves h =
      let e = windowing.0 h in
      (ap (λ t. t.window) e, ap (λ t. t.wl1) e, ap (λ t. t.wl2) e)

  pub window_stays : ¬ (Current × Later) → let t = taken s fields in (t.window ≡ s.window) × (t.wl1 ≡ s.wl1) × (t.wl2 ≡ s.wl2)
  unfolding acknowledged
  window_stays h =
      let e = windowing.1 h in
      (ap (λ t. t.window) e, ap (λ t. t.wl1) e, ap (λ t. t.wl2) e)

  -- SND.NXT and the shift stay
  pub take_leaves_nxt : (taken s fields).nxt ≡ s.nxt
  unfolding taken windowed acknowledged
  take_leaves_nxt = either (λ (t : Send). t.nxt ≡ s.nxt) (updates_window s fields) _ _ (λ _. refl) (λ _. refl)

  pub take_leaves_shift : (taken s fields).shift ≡ s.shift
  unfolding taken windowed acknowledged
  take_leaves_shift = either (λ (t : Send). t.shift ≡ s.shift) (updates_window s fields) _ _ (λ _. refl) (λ _. refl)

-- noting n octets adds n to SND.NXT, and changes nothing else
pub record Notes (s : Send) (n : ℕ) (t : Send) : Type 0 where
  pub nxt_moves : t.nxt.0 ≡ (s.nxt.0 + n) % 2 ^ 32
  pub una_stays : t.una ≡ s.una
  pub window_stays : t.window ≡ s.window
  pub largest_stays : t.largest ≡ s.largest
  pub shift_stays : t.shift ≡ s.shift
  pub wl1_stays : t.wl1 ≡ s.wl1
  pub wl2_stays : t.wl2 ≡ s.wl2

-- E12: noting n sent octets with (NXT - UNA) + n above SND.WND, and then the send side stays; otherwise they are noted
module _ (s : Send) (n : ℕ) where
  pub sent_refused : s.window < offset_of s.una.0 s.nxt.0 + n → sent s n ≡ record { number = 12; send = s }
  unfolding exceeds_window
  sent_refused over = sent_refusal_leaves s n (lt-ltb s.window (offset_of s.una.0 s.nxt.0 + n) over)

  pub sent_noted : offset_of s.una.0 s.nxt.0 + n ≤ s.window → ((sent s n).number ≡ 0) × Notes s n (sent s n).send
  unfolding exceeds_window
  sent_noted fits =
      let e = sent_moves s n (le-ltb s.window (offset_of s.una.0 s.nxt.0 + n) fits) in
      subst (λ (a : Answer). (a.number ≡ 0) × Notes s n a.send) (sym e) (
        refl,
        record {
          nxt_moves = refl;
          una_stays = refl;
          window_stays = refl;
          largest_stays = refl;
          shift_stays = refl;
          wl1_stays = refl;
          wl2_stays = refl;
        },
      )
