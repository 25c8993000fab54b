-- Which segments are acceptable, and the new part of one: the numbers of the segment that lie in the window. Assumes nothing.
use mathlib.Core.Bool.{Bool, true, false, cond, not, ◌&&◌, ◌||◌, and-eq-true_iff, and-false, false≢true}
use mathlib.Core.Logic.{◌↔◌}
use mathlib.Core.Path.{◌≡◌, refl, sym, ap, ◌∙◌}
use Prim.Native.Nat.{ℕ, zero, suc, ◌+◌, ◌-◌, ◌%◌, ◌^◌, ◌≤◌, ◌<◌, min}
use native.Mathlib.Decide.{dec_le, dec_lt}
use native.Mathlib.Omega.{arith}
use lib.Dec.{eqb, leb, ltb}
use borrow.Author.Tests.{eq-eqb, le-leb, le-ltb, leb-false, leb-true, lt-leb, lt-ltb, ltb-true, ne_eqb}
use Rattle.serial.specs.Serial.{moved_by, offset_of}
use Rattle.serial.proofs.Offset.{offset_below, offset_moved, offset_sum}
use Rattle.receive.specs.declared.Part.{Part}
use Rattle.receive.specs.declared.Receive.{Receive}
use Rattle.receive.specs.Ranges.{lies_in}
use Rattle.receive.specs.Window.{acceptable, empty_part, fin_inside, first_offset, has_no_part, last_offset, new_part, part_end, part_start}
use Rattle.laws.proofs.Choices.{both_true, either, neither, or_left, or_right}

no_window : (w a b : ℕ) → cond (eqb w 0) false (ltb a w || ltb b w) ≡ ltb a w || ltb b w
no_window zero a b = rw (le-ltb a zero (omega arith), le-ltb b zero (omega arith))
no_window (suc w) a b = rw (ne_eqb (suc w) 0 (λ e. omega arith))

same_tests : (from to o window past len : ℕ) → (from ≤ o → o < to → (o < window) × (past < len))
    → (o < window → past < len → (from ≤ o) × (o < to)) → leb from o && ltb o to ≡ ltb o window && ltb past len
same_tests from to o window past len there back =
    exactly (leb from o && ltb o to) (ltb o window && ltb past len)
    (λ t.
    let h = both_true (leb from o) (ltb o to) t in
    let g = there (leb-true _ _ h.0) (ltb-true _ _ h.1) in
    rw (lt-ltb o window g.0, lt-ltb past len g.1))
    (λ t.
    let h = both_true (ltb o window) (ltb past len) t in
    let g = back (ltb-true _ _ h.0) (ltb-true _ _ h.1) in
    rw (le-leb from o g.0, lt-ltb o to g.1))
  where
    exactly : (a b : Bool) → (a ≡ true → b ≡ true) → (b ≡ true → a ≡ true) → a ≡ b
    exactly true b f g = sym (f refl)
    exactly false true f g = g refl
    exactly false false f g = refl

-- nothing lies in the empty part
pub none_lies : (o : ℕ) → lies_in empty_part o ≡ false
none_lies o = rw (le-ltb o 0 (omega arith)) (and-false (leb 0 o))

module _ (r : Receive) (seq len : ℕ) where
  abbrev first : ℕ
  first = first_offset r seq

  abbrev last : ℕ
  last = last_offset r seq len

  -- LEN above 0: one of both ends is below the window, and nothing is below a window of 0
  pub accepts_ends : 0 < len → acceptable r seq len ≡ ltb first r.window || ltb last r.window
  unfolding acceptable
  accepts_ends filled = rw (ne_eqb len 0 (λ e. omega arith)) (no_window r.window first last)

  -- both ends outside: refused, even if it spans the window
  pub both_outside : 0 < len → r.window ≤ first → r.window ≤ last → acceptable r seq len ≡ false
  both_outside filled low high = accepts_ends filled ∙ rw (le-ltb first r.window low, le-ltb last r.window high)

  -- LEN 0, window above 0
  pub accepts_bare : len ≡ 0 → 0 < r.window → acceptable r seq len ≡ ltb first r.window
  unfolding acceptable
  accepts_bare none above = rw (eq-eqb len 0 none, ne_eqb r.window 0 (λ e. omega arith))

  -- window 0 accepts only LEN 0 at RCV.NXT
  pub zero_window : r.window ≡ 0 → acceptable r seq len ≡ eqb len 0 && eqb seq r.nxt.0
  unfolding acceptable
  zero_window none = rw (eq-eqb r.window 0 none) (pick (eqb len 0) (eqb seq r.nxt.0))
    where
      pick : (b at_next : Bool) → cond b at_next false ≡ b && at_next
      pick true at_next = refl
      pick false at_next = refl

  -- every part lies in the window
  pub part_within : (new_part r seq len).to ≤ r.window
  unfolding new_part
  part_within = either (λ (p : Part). p.to ≤ r.window) (has_no_part r seq len) _ _ (λ _. omega arith) (λ _. omega arith)

  -- the cases of the new part: none of LEN 0, nor of a segment that is not acceptable
  no_part : has_no_part r seq len ≡ true → new_part r seq len ≡ empty_part
  unfolding new_part
  no_part none = rw none

  pub nothing_sent : len ≡ 0 → new_part r seq len ≡ empty_part
  nothing_sent none = no_part (or_left (eqb len 0) _ (eq-eqb len 0 none))

  abbrev is_too_short : Bool
  is_too_short = leb (part_end r seq len) (part_start r seq)

  pub not_acceptable : acceptable r seq len ≡ false → new_part r seq len ≡ empty_part
  not_acceptable outside =
      no_part (or_right (eqb len 0) (not (acceptable r seq len) || is_too_short) (or_left (not (acceptable r seq len)) is_too_short (ap not outside)))

  -- every part ends no earlier than it starts
  pub part_ordered : (new_part r seq len).from ≤ (new_part r seq len).to
  unfolding new_part
  part_ordered =
      either (λ (p : Part). p.from ≤ p.to) (has_no_part r seq len) _ _ (λ _. omega arith)
      (λ some.
      let tests = neither (not (acceptable r seq len)) is_too_short (neither (eqb len 0) _ some).1 in
      omega (arith, leb-false (part_end r seq len) (part_start r seq) tests.1))

  start_inside : first < r.window → part_start r seq ≡ first
  start_inside low = rw (lt-ltb first r.window low)

  start_outside : r.window ≤ first → part_start r seq ≡ 0
  start_outside low = rw (le-ltb first r.window low)

  module _ (filled : 0 < len) where
    ordered : acceptable r seq len ≡ true → part_start r seq < part_end r seq len
        → new_part r seq len ≡ record { from = part_start r seq; to = part_end r seq len }
    unfolding new_part
    ordered accepted order =
        rw (ne_eqb len 0 (λ e. omega arith), accepted, lt-leb (part_end r seq len) (part_start r seq) order)

    first_accepts : first < r.window → acceptable r seq len ≡ true
    first_accepts low = accepts_ends filled ∙ or_left (ltb first r.window) (ltb last r.window) (lt-ltb first r.window low)

    -- from o(SEQ)
    pub starts_inside : first < r.window → first ≤ last → new_part r seq len ≡ record { from = first; to = min (last + 1) r.window }
    starts_inside low order =
        ordered (first_accepts low) (omega (arith, start_inside low))
        ∙ (λ i. record { from = start_inside low i; to = part_end r seq len })

    -- none if it would end at or before its start
    pub ends_first : first < r.window → last < first → new_part r seq len ≡ empty_part
    ends_first low order =
        no_part
        (or_right (eqb len 0) (not (acceptable r seq len) || is_too_short)
        (or_right (not (acceptable r seq len)) is_too_short (le-leb (part_end r seq len) (part_start r seq) (omega (arith, start_inside low)))))

    -- from 0
    pub starts_before : r.window ≤ first → last < r.window → new_part r seq len ≡ record { from = 0; to = last + 1 }
    starts_before low high =
        let accepted = accepts_ends filled ∙ or_right (ltb first r.window) (ltb last r.window) (lt-ltb last r.window high) in
        let end : part_end r seq len ≡ last + 1 = omega arith in
        ordered accepted (omega (arith, start_outside low))
        ∙ (λ i. record { from = start_outside low i; to = end i })

  -- whether FIN lies in the part, of any SEQ and LEN: there is one, and the segment's last number lies in the part
  pub fin_lies : (fin : Bool) → fin_inside r seq len fin ≡ true
      ↔ (fin ≡ true) × (lies_in (new_part r seq len) (offset_of r.nxt.0 ((seq + (len - 1)) % 2 ^ 32)) ≡ true)
  unfolding fin_inside
  fin_lies fin = and-eq-true_iff fin (lies_in (new_part r seq len) last)

  -- LEN 0 has no FIN in its part
  pub no_fin : len ≡ 0 → (fin : Bool) → fin_inside r seq len fin ≡ false
  unfolding fin_inside
  no_fin none fin = rw (nothing_sent none, none_lies last) (and-false fin)

  -- the segment's last number, and its new part
  pub last_outside : r.window ≤ last → lies_in (new_part r seq len) last ≡ false
  last_outside high =
      rw (le-ltb last (new_part r seq len).to (omega (arith, part_within))) (and-false (leb (new_part r seq len).from last))

  pub last_inside : 0 < len → last < r.window → first ≤ last → lies_in (new_part r seq len) last ≡ true
  last_inside filled high order =
      rw (
        starts_inside filled (omega arith) order,
        le-leb first last order,
        lt-ltb last (min (last + 1) r.window) (omega arith),
      )

  pub last_behind : 0 < len → last < r.window → last < first → lies_in (new_part r seq len) last ≡ leb r.window first
  last_behind filled high order = pick (dec_le r.window first)
    where
      pick : Dec (r.window ≤ first) → lies_in (new_part r seq len) last ≡ leb r.window first
      pick (yes low) =
          rw (
            starts_before filled low high,
            le-leb 0 last (omega arith),
            lt-ltb last (last + 1) (omega arith),
            le-leb r.window first low,
          )
      pick (no low) = rw (ends_first filled (omega arith) order, lt-leb r.window first (omega arith)) (none_lies last)

  -- where LEN and the window are at most 2^32, a segment that starts in the window does not wrap back into it
  module _ (short : len + r.window ≤ 2 ^ 32) where
    last_is : 0 < len → (last ≡ moved_by first (len - 1)) × (first < 2 ^ 32)
    last_is filled = (
      sym (offset_sum r.nxt.0 seq (moved_by seq (len - 1)))
          ∙ ap (moved_by first) (offset_moved seq (len - 1) (omega arith)),
      offset_below r.nxt.0 seq,
    )

    -- the new part of an acceptable segment is exactly those of its LEN numbers from SEQ on that lie in the window
    pub part_exactly : acceptable r seq len ≡ true → (x : ℕ)
        → lies_in (new_part r seq len) (offset_of r.nxt.0 x) ≡ ltb (offset_of r.nxt.0 x) r.window && ltb (offset_of seq x) len
    part_exactly accepted x = pick (dec_lt 0 len) (dec_lt first r.window) (dec_lt last r.window)
      where
        o : ℕ
        o = offset_of r.nxt.0 x

        past : ℕ
        past = offset_of seq x

        to_x : (moved_by first past ≡ o) × (past < 2 ^ 32)
        to_x = (offset_sum r.nxt.0 seq x, offset_below seq x)

        pick : Dec (0 < len) → Dec (first < r.window) → Dec (last < r.window)
            → lies_in (new_part r seq len) o ≡ ltb o r.window && ltb past len
        pick (no none) low high =
            rw (nothing_sent (omega arith), le-ltb past len (omega arith)) (none_lies o ∙ sym (and-false (ltb o r.window)))
        pick (yes filled) (yes low) high =
            let end = last_is filled in
            rw (starts_inside filled low (omega arith))
            (same_tests first (min (last + 1) r.window) o r.window past len (λ f t. omega (arith, to_x)) (λ w l. omega (arith, to_x)))
        pick (yes filled) (no low) (yes high) =
            let end = last_is filled in
            rw (starts_before filled (omega arith) high)
            (same_tests 0 (last + 1) o r.window past len (λ f t. omega (arith, to_x)) (λ w l. omega (arith, to_x)))
        pick (yes filled) (no low) (no high) =
            absurd (false≢true (sym (both_outside filled (omega arith) (omega arith)) ∙ accepted))

    -- FIN lies in it exactly if there is one and its number, the segment's last, is in the window
    pub fin_exactly : 0 < len → (fin : Bool) → fin_inside r seq len fin ≡ fin && ltb last r.window
    unfolding fin_inside
    fin_exactly filled fin = ap (λ b. fin && b) (pick (dec_lt last r.window) (dec_le first last))
      where
        pick : Dec (last < r.window) → Dec (first ≤ last) → lies_in (new_part r seq len) last ≡ ltb last r.window
        pick (no high) order = last_outside (omega arith) ∙ sym (le-ltb last r.window (omega arith))
        pick (yes high) (yes order) = last_inside filled high order ∙ sym (lt-ltb last r.window high)
        pick (yes high) (no order) =
            let end = last_is filled in
            last_behind filled high (omega arith) ∙ (le-leb r.window first (omega arith) ∙ sym (lt-ltb last r.window high))
