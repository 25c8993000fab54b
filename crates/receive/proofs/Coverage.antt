-- Which numbers are received: after a take exactly those received before and those of the new part. No octet is lost and none is made up.
-- Assumes nothing.
use mathlib.Core.Bool.{Bool, true, false, cond, not, ◌&&◌, ◌||◌, and-false, false≢true, or_assoc, or_comm, or-false}
use mathlib.Core.List.{List, ◌∷◌}
use mathlib.Core.Logic.{⊎_elim}
use mathlib.Core.Path.{◌≡◌, refl, sym, ap, ◌∙◌}
use Prim.Native.Nat.{ℕ, ◌+◌, ◌-◌, ◌^◌, ◌≤◌, ◌<◌, min, max}
use native.Mathlib.Decide.{dec_le, dec_lt}
use native.Mathlib.Omega.{arith}
use lib.Dec.{eqb, leb, ltb}
use borrow.Author.Tests.{eqb-false, eqb-true, le-leb, le-ltb, leb-true, lt-leb, lt-ltb, ltb-true}
use Rattle.laws.specs.Lists.{Each, any}
use Rattle.laws.specs.Lists.Each.{none, more}
use Rattle.laws.proofs.Choices.{both_true, either, either_true, or_right, or_swap}
use Rattle.serial.specs.Serial.{offset_of}
use Rattle.serial.specs.declared.Range.{Range}
use Rattle.serial.proofs.Offset.{offset_around, offset_below, offset_between, offset_moved, offset_self}
use Rattle.receive.specs.declared.Part.{Part}
use Rattle.receive.specs.declared.Receive.{Receive}
use Rattle.receive.specs.Coverage.{is_held, is_in, is_received}
use Rattle.receive.specs.Ranges.{greatest, joined, least, left_of, lies_in, meets, met, no_room, range_of, ranges_after, ranges_of, right_of, unmet}
use Rattle.receive.specs.Sound.{Inside, Sound}
use Rattle.receive.specs.Taking.{advance, advanced, holding, taken}
use Rattle.receive.specs.Window.{acceptable, lacks_room, new_part}
use Rattle.receive.proofs.Parts.{part_exactly, part_within}
use Rattle.receive.proofs.Room.{joins_first, near_leaves, none_out_of_order}
use Rattle.receive.proofs.Slots.{ranges_held}
use Rattle.receive.proofs.Soundness.{greatest_least, joined_within, least_most}
use Rattle.receive.proofs.Taken.{window_below}

-- o lies between two offsets
abbrev span : ℕ → ℕ → ℕ → Bool
span from to o = leb from o && ltb o to

module _ (from to o : ℕ) where
  between : from ≤ o → o < to → span from to o ≡ true
  between low high = rw (le-leb from o low, lt-ltb o to high)

  below : o < from → span from to o ≡ false
  below low = rw (lt-leb from o low)

  beyond : to ≤ o → span from to o ≡ false
  beyond high = rw (le-ltb o to high) (and-false (leb from o))

  empty : to ≤ from → span from to o ≡ false
  empty order = pick (dec_lt o from)
    where
      pick : Dec (o < from) → span from to o ≡ false
      pick (yes low) = below low
      pick (no low) = beyond (omega arith)

-- two spans that overlap or touch are one
union : (a b c d from to o : ℕ) → a ≤ d → c ≤ b → from ≡ min a c → to ≡ max b d → span from to o ≡ span a b o || span c d o
union a b c d from to o left right least_is greatest_is = pick (dec_lt o from) (dec_lt o to) (dec_le a o) (dec_lt o b)
  where
    pick : Dec (o < from) → Dec (o < to) → Dec (a ≤ o) → Dec (o < b) → span from to o ≡ span a b o || span c d o
    pick (yes low) h f t = below _ _ o low ∙ sym (rw (below a b o (omega arith)) (below c d o (omega arith)))
    pick (no low) (no high) f t = beyond _ _ o (omega arith) ∙ sym (rw (beyond a b o (omega arith)) (beyond c d o (omega arith)))
    pick (no low) (yes high) (yes f) (yes t) = between _ _ o (omega arith) high ∙ sym (rw (between a b o f t))
    pick (no low) (yes high) (yes f) (no t) =
        between _ _ o (omega arith) high ∙ sym (or_right (span a b o) _ (between c d o (omega arith) (omega arith)))
    pick (no low) (yes high) (no f) t =
        between _ _ o (omega arith) high ∙ sym (or_right (span a b o) _ (between c d o (omega arith) (omega arith)))

module _ (nxt x : ℕ) where
  abbrev o : ℕ
  o = offset_of nxt x

  -- a number lies in a range that is not empty where its offset lies between the ends
  in_span : (r : Range) → left_of nxt r < right_of nxt r → is_in x r ≡ span (left_of nxt r) (right_of nxt r) o
  unfolding is_in left_of right_of
  in_span r filled = pick (dec_le left o) (dec_lt o right)
    where
      left : ℕ
      left = offset_of nxt r.left.0

      right : ℕ
      right = offset_of nxt r.right.0

      first : ℕ
      first = offset_of r.left.0 x

      wide : offset_of r.left.0 r.right.0 ≡ right - left
      wide = offset_between nxt r.left.0 r.right.0 (omega arith)

      pick : Dec (left ≤ o) → Dec (o < right) → ltb first (offset_of r.left.0 r.right.0) ≡ span left right o
      pick (yes low) (yes high) =
          let from = offset_between nxt r.left.0 x low in
          rw wide (lt-ltb first (right - left) (omega arith) ∙ sym (between left right o low high))
      pick (yes low) (no high) =
          let from = offset_between nxt r.left.0 x low in
          rw wide (le-ltb first (right - left) (omega arith) ∙ sym (beyond left right o (omega arith)))
      pick (no low) high =
          let from = offset_around nxt r.left.0 x (omega arith) in
          rw wide
          (le-ltb first (right - left) (omega (arith, offset_below nxt r.right.0)) ∙ sym (below left right o (omega arith)))

  module _ (p : Part) (window : ℕ) where
    -- the ranges that the part meets, and the part, are the joined part
    absorbs : {l : List Range} → Each (Inside nxt window) l
        → any (is_in x) (unmet nxt p l) || span (joined nxt p l).from (joined nxt p l).to o ≡ any (is_in x) l || lies_in p o
    unfolding joined meets
    absorbs none = refl
    absorbs (more {x = r} {xs = l} i e) = pick (meets nxt p r) refl (absorbs e)
      where
        pick : (b : Bool) → meets nxt p r ≡ b
            → any (is_in x) (unmet nxt p l) || span (joined nxt p l).from (joined nxt p l).to o ≡ any (is_in x) l || lies_in p o
            → any (is_in x) (cond (not b) (r ∷ unmet nxt p l) (unmet nxt p l))
            || span (least nxt p.from (cond b (r ∷ met nxt p l) (met nxt p l)))
            (greatest nxt p.to (cond b (r ∷ met nxt p l) (met nxt p l)))
            o
            ≡ is_in x r || any (is_in x) l || lies_in p o
        pick true b later =
            let tests = both_true (leb (left_of nxt r) p.to) (leb p.from (right_of nxt r)) b in
            let low : left_of nxt r ≤ p.to = leb-true _ _ tests.0 in
            let high : p.from ≤ right_of nxt r = leb-true _ _ tests.1 in
            let from : ℕ = least nxt p.from (met nxt p l) in
            let to : ℕ = greatest nxt p.to (met nxt p l) in
            ap (λ s. any (is_in x) (unmet nxt p l) || s)
            (union (left_of nxt r) (right_of nxt r) from to (least nxt p.from (r ∷ met nxt p l)) (greatest nxt p.to (r ∷ met nxt p l)) o
            (omega (arith, greatest_least nxt p.to (met nxt p l))) (omega (arith, least_most nxt p.from (met nxt p l)))
            (omega arith) (omega (arith, greatest_least nxt p.to (met nxt p l))))
            ∙ (or_swap (any (is_in x) (unmet nxt p l)) (span (left_of nxt r) (right_of nxt r) o) (span from to o)
            ∙ (ap (λ s. s || (any (is_in x) (unmet nxt p l) || span from to o)) (sym (in_span r i.filled))
            ∙ (ap (λ s. is_in x r || s) later ∙ sym (or_assoc (is_in x r) (any (is_in x) l) (lies_in p o)))))
        pick false b later = or_assoc (is_in x r) _ _ ∙ (ap (λ s. is_in x r || s) later ∙ sym (or_assoc (is_in x r) _ _))

-- what is held lies above RCV.NXT and in the window
held_span : {nxt window : ℕ} {l : List Range} (x : ℕ) → Each (Inside nxt window) l → any (is_in x) l ≡ true
    → (0 < offset_of nxt x) × (offset_of nxt x < window)
held_span x none t = absurd (false≢true t)
held_span {nxt} {window} x (more {x = r} {xs = l} i e) t = ⊎_elim here (held_span x e) (either_true (is_in x r) (any (is_in x) l) t)
  where
    here : is_in x r ≡ true → (0 < offset_of nxt x) × (offset_of nxt x < window)
    here t =
        let tests = both_true (leb (left_of nxt r) (offset_of nxt x)) (ltb (offset_of nxt x) (right_of nxt r)) (sym (in_span nxt x r i.filled) ∙ t) in
        let low : left_of nxt r ≤ offset_of nxt x = leb-true _ _ tests.0 in
        let high : offset_of nxt x < right_of nxt r = ltb-true _ _ tests.1 in
        omega arith

pub held_inside : (r : Receive) → Sound r → (x : ℕ) → is_held r x ≡ true
    → (0 < offset_of r.nxt.0 x) × (offset_of r.nxt.0 x < r.window)
held_inside r s x t = held_span x s.ranges.inside t

pub held_received : (base : ℕ) (r : Receive) (x : ℕ) → is_held r x ≡ true → is_received base r x ≡ true
held_received base r x held = or_right (ltb (offset_of base x) (offset_of base r.nxt.0)) (is_held r x) held

module _ (r : Receive) (s : Sound r) (p : Part) (within : p.to ≤ r.window) (x : ℕ) where
  abbrev nxt : ℕ
  nxt = r.nxt.0

  abbrev l : List Range
  l = ranges_of r.held

  least_from : (joined nxt p l).from ≤ p.from
  unfolding joined
  least_from = least_most nxt p.from (met nxt p l)

  to_most : (joined nxt p l).to < 2 ^ 32
  to_most = omega (arith, joined_within nxt p r.window l s.ranges within, window_below r s)

  to_least : p.to ≤ (joined nxt p l).to
  unfolding joined
  to_least = greatest_least nxt p.to (met nxt p l)

  -- before the part, no number from RCV.NXT on is below RCV.NXT
  received_held : (t : Receive) → t.nxt.0 ≡ nxt → is_received nxt t x ≡ is_held t x
  received_held t same = rw (same, offset_self nxt, le-ltb (offset_of nxt x) 0 (omega arith))

  -- a part that starts at 0
  advanced_covers : p.from ≡ 0 → is_received nxt (advanced r p) x ≡ is_held r x || lies_in p (offset_of nxt x)
  unfolding advanced
  advanced_covers zero =
      rw (offset_moved nxt (advance r p) to_most, ranges_held)
      (or_comm (ltb (offset_of nxt x) (advance r p)) (any (is_in x) (unmet nxt p l))
      ∙ (ap (λ b. any (is_in x) (unmet nxt p l) || (b && ltb (offset_of nxt x) (advance r p)))
      (sym (le-leb (joined nxt p l).from (offset_of nxt x) (omega (arith, least_from))))
      ∙ absorbs nxt x p r.window s.ranges.inside))

  -- one that does not, and is not empty
  joined_is : p.from < p.to
      → is_in x (range_of nxt (joined nxt p l)) ≡ span (joined nxt p l).from (joined nxt p l).to (offset_of nxt x)
  unfolding range_of left_of right_of
  joined_is filled =
      let left : left_of nxt (range_of nxt (joined nxt p l)) ≡ (joined nxt p l).from =
      offset_moved nxt _ (omega (arith, to_most, to_least, least_from)) in
      let right : right_of nxt (range_of nxt (joined nxt p l)) ≡ (joined nxt p l).to = offset_moved nxt _ to_most in
      in_span nxt x (range_of nxt (joined nxt p l)) (omega (arith, to_least, least_from)) ∙ (λ i. span (left i) (right i) (offset_of nxt x))

  joins : p.from < p.to → any (is_in x) (range_of nxt (joined nxt p l) ∷ unmet nxt p l) ≡ is_held r x || lies_in p (offset_of nxt x)
  joins filled =
      ap (λ b. b || any (is_in x) (unmet nxt p l)) (joined_is filled)
      ∙ (or_comm _ (any (is_in x) (unmet nxt p l)) ∙ absorbs nxt x p r.window s.ranges.inside)

  -- the joined range holds the part
  pub part_joined : p.from < p.to → lies_in p (offset_of nxt x) ≡ true → is_in x (range_of nxt (joined nxt p l)) ≡ true
  part_joined filled lies =
      let tests = both_true (leb p.from (offset_of nxt x)) (ltb (offset_of nxt x) p.to) lies in
      let low : p.from ≤ offset_of nxt x = leb-true _ _ tests.0 in
      let high : offset_of nxt x < p.to = ltb-true _ _ tests.1 in
      joined_is filled ∙ between _ _ (offset_of nxt x) (omega (arith, least_from)) (omega (arith, to_least))

  holding_covers : 0 < p.from → no_room nxt p l ≡ false → is_received nxt (holding r p) x ≡ is_held r x || lies_in p (offset_of nxt x)
  unfolding holding
  holding_covers later room = received_held (holding r p) refl ∙ rw ranges_held (pick (dec_lt p.from p.to))
    where
      pick : Dec (p.from < p.to) → any (is_in x) (ranges_after nxt p l) ≡ is_held r x || lies_in p (offset_of nxt x)
      pick (yes filled) = rw (joins_first nxt p l later filled room) (joins filled)
      pick (no bare) =
          rw (near_leaves nxt p l (none_out_of_order p (omega arith)), empty p.from p.to (offset_of nxt x) (omega arith))
          (sym (or-false (is_held r x)))

  -- the number x is received after the part is taken exactly if it was received before or lies in the part
  pub coverage : no_room nxt p l ≡ false → is_received nxt (taken r p) x ≡ is_received nxt r x || lies_in p (offset_of nxt x)
  unfolding taken
  coverage room =
      either (λ t. is_received nxt t x ≡ is_held r x || lies_in p (offset_of nxt x)) (eqb p.from 0) (advanced r p) (holding r p)
      (λ zero. advanced_covers (eqb-true _ _ zero)) (λ later. holding_covers (omega (arith, eqb-false p.from 0 later)) room)
      ∙ ap (λ b. b || lies_in p (offset_of nxt x)) (sym (received_held r refl))

  -- so what was received stays received
  pub received_stays : no_room nxt p l ≡ false → is_received nxt r x ≡ true → is_received nxt (taken r p) x ≡ true
  received_stays room before = coverage room ∙ ap (λ b. b || lies_in p (offset_of nxt x)) before

-- of a segment for which there is room
module _ (r : Receive) (s : Sound r) (seq len : ℕ) (room : lacks_room r seq len ≡ false) (x : ℕ) where
  pub received_exactly : is_received r.nxt.0 (taken r (new_part r seq len)) x
      ≡ is_received r.nxt.0 r x || lies_in (new_part r seq len) (offset_of r.nxt.0 x)
  unfolding lacks_room
  received_exactly = coverage r s (new_part r seq len) (part_within r seq len) x room

  -- of an acceptable one: those received before, and those of its LEN numbers from SEQ on that lie in the window
  pub segment_received : acceptable r seq len ≡ true → len + r.window ≤ 2 ^ 32
      → is_received r.nxt.0 (taken r (new_part r seq len)) x
      ≡ is_received r.nxt.0 r x || (ltb (offset_of r.nxt.0 x) r.window && ltb (offset_of seq x) len)
  segment_received accepted short =
      received_exactly ∙ ap (λ b. is_received r.nxt.0 r x || b) (part_exactly r seq len short accepted x)
