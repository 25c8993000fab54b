-- Taking a new part, and writing an acknowledgment, leave a sound receive side; an empty part leaves it as it was. Assumes nothing.
use mathlib.Core.Bool.{Bool, true, false, cond, not, ◌&&◌}
use mathlib.Core.List.{List, ◌∷◌}
use mathlib.Core.Path.{◌≡◌, refl, sym, ap, ◌∙◌}
use Prim.Native.Nat.{ℕ, ◌^◌, ◌≤◌, ◌<◌}
use native.Mathlib.Nat.{mul-le-mul_left}
use native.Mathlib.Omega.{arith}
use lib.Dec.{eqb, ltb}
use lib.Pow.{pow_mono}
use borrow.Author.Tests.{eq-eqb, eqb-false, eqb-true, lt-leb, ltb-true, ne_eqb}
use Rattle.serial.specs.declared.Range.{Range}
use Rattle.receive.specs.declared.Held.{Held}
use Rattle.receive.specs.declared.Part.{Part}
use Rattle.receive.specs.declared.Receive.{Receive}
use Rattle.laws.specs.Lists.{Each}
use Rattle.receive.specs.Ranges.{held_of, is_out_of_order, joined, left_of, meets, no_room, range_of, ranges_after, ranges_of, unmet}
use Rattle.receive.specs.Sound.{Sound, SoundRanges}
use Rattle.receive.specs.Taking.{acknowledged, advance, advanced, holding, taken}
use Rattle.receive.specs.Window.{acceptable, empty_part, new_part}
use Rattle.receive.specs.Internal.{moved_on}
use Rattle.laws.proofs.Choices.{both_true, either}
use Rattle.laws.proofs.Lists.{each_map, filter_none, filter_others}
use Rattle.receive.proofs.Parts.{not_acceptable, nothing_sent, part_within}
use Rattle.receive.proofs.Room.{full_leaves, near_leaves, no_room_full, none_out_of_order, room}
use Rattle.receive.proofs.Slots.{canonical_held, none_held, ranges_held}
use Rattle.receive.proofs.Soundness.{advanced_sound, joined_sound, joined_within}

-- the two cases
module _ (r : Receive) (p : Part) where
  pub taken_first : p.from ≡ 0 → taken r p ≡ advanced r p
  unfolding taken
  taken_first first = rw (eq-eqb _ _ first)

  pub taken_later : (p.from ≡ 0 → ⊥) → taken r p ≡ holding r p
  unfolding taken
  taken_later later = rw (ne_eqb _ _ later)

module _ (r : Receive) (s : Sound r) where
  -- a window that E13 lets pass
  pub window_below : r.window < 2 ^ 30
  window_below = omega (arith, s.window_most, mul-le-mul_left 65535 (pow_mono {i = r.shift} {j = 14} s.shift_most))

  module _ (p : Part) (within : p.to ≤ r.window) where
    pub advance_within : advance r p ≤ r.window
    advance_within = joined_within r.nxt.0 p r.window (ranges_of r.held) s.ranges within

    -- the ranges afterwards
    after_sound : SoundRanges r.nxt.0 r.window (ranges_after r.nxt.0 p (ranges_of r.held))
    unfolding ranges_after is_out_of_order
    after_sound = pick (is_out_of_order p) refl (no_room nxt p l) refl
      where
        nxt : ℕ
        nxt = r.nxt.0

        l : List Range
        l = ranges_of r.held

        pick : (b : Bool) → is_out_of_order p ≡ b → (n : Bool) → no_room nxt p l ≡ n
            → SoundRanges nxt r.window (cond (b && not n) (range_of nxt (joined nxt p l) ∷ unmet nxt p l) l)
        pick true b true n = s.ranges
        pick true b false n =
            let tests = both_true (ltb 0 p.from) (ltb p.from p.to) b in
            joined_sound nxt p r.window l s.ranges (omega (arith, window_below)) (ltb-true _ _ tests.0) (ltb-true _ _ tests.1) within
            (room nxt p l b n s.ranges.few)
        pick false b n e = s.ranges

    pub advanced_keeps : p.from ≡ 0 → Sound (advanced r p)
    unfolding advanced
    advanced_keeps zero =
        let after = advanced_sound r.nxt.0 r.window (advanced r p).window p (ranges_of r.held) (omega arith) zero s.ranges in
        record {
          nxt_below = omega arith;
          shift_most = s.shift_most;
          window_most = omega (arith, s.window_most);
          canonical = canonical_held _ after.few;
          ranges = rw ranges_held after;
        }

    pub holding_keeps : Sound (holding r p)
    unfolding holding
    holding_keeps = record {
      nxt_below = s.nxt_below;
      shift_most = s.shift_most;
      window_most = s.window_most;
      canonical = canonical_held _ after_sound.few;
      ranges = rw ranges_held after_sound;
    }

    pub part_taken_sound : Sound (taken r p)
    unfolding taken
    part_taken_sound = either Sound (eqb p.from 0) _ _ (λ zero. advanced_keeps (eqb-true _ _ zero)) (λ _. holding_keeps)

  -- where nothing is held, an advance absorbs nothing
  pub advanced_alone : (p : Part) → r.held.count ≡ 0 → moved_on r p.to ≡ advanced r p
  unfolding advanced moved_on joined
  advanced_alone p alone =
      let none = none_held r.held alone in
      rw none (ap moved (s.canonical.form ∙ ap held_of none))
    where
      m : Receive
      m = moved_on r p.to

      moved : Held → Receive
      moved held = record { nxt = m.nxt; window = m.window; shift = m.shift; acked = m.acked; held = held }

  -- an advance to 0 changes nothing
  advanced_none : (p : Part) → p.to ≡ 0 → advanced r p ≡ r
  unfolding advanced joined meets
  advanced_none p none = λ i. record {
    nxt = record { 0 = nxt_is i };
    window = window_is i;
    shift = r.shift;
    acked = r.acked;
    held = held_is i;
  }
    where
      above : (x : Range) → 0 < left_of r.nxt.0 x → meets r.nxt.0 p x ≡ false
      above x h = rw (lt-leb (left_of r.nxt.0 x) p.to (omega arith))

      clear : Each (λ x. meets r.nxt.0 p x ≡ false) (ranges_of r.held)
      clear = each_map (λ x i. above x i.above) s.ranges.inside

      advance_is : advance r p ≡ 0
      advance_is = rw (filter_none (meets r.nxt.0 p) clear) none

      nxt_is : (advanced r p).nxt.0 ≡ r.nxt.0
      nxt_is = omega (arith, advance_is, s.nxt_below)

      window_is : (advanced r p).window ≡ r.window
      window_is = omega (arith, advance_is)

      held_is : (advanced r p).held ≡ r.held
      held_is = ap held_of (filter_others (meets r.nxt.0 p) clear) ∙ sym s.canonical.form

  pub holding_near : (p : Part) → is_out_of_order p ≡ false → holding r p ≡ r
  unfolding holding
  holding_near p near = rw (near_leaves r.nxt.0 p (ranges_of r.held) near, ← s.canonical.form)

pub taken_sound : (r : Receive) (seq len : ℕ) → Sound r → Sound (taken r (new_part r seq len))
taken_sound r seq len s = part_taken_sound r s (new_part r seq len) (part_within r seq len)

pub acknowledged_sound : (r : Receive) → Sound r → Sound (acknowledged r)
acknowledged_sound r s =
    record { nxt_below = s.nxt_below; shift_most = s.shift_most; window_most = s.window_most; canonical = s.canonical; ranges = s.ranges }

-- a part that changes nothing
module _ (r : Receive) (s : Sound r) (p : Part) where
  -- an empty part changes no range and leaves RCV.NXT
  pub empty_leaves : p.to ≤ p.from → taken r p ≡ r
  empty_leaves none = pick (eqb p.from 0) refl
    where
      pick : (b : Bool) → eqb p.from 0 ≡ b → taken r p ≡ r
      pick true zero = taken_first r p (eqb-true _ _ zero) ∙ advanced_none r s p (omega (arith, eqb-true p.from 0 zero))
      pick false later = taken_later r p (eqb-false _ _ later) ∙ holding_near r s p (none_out_of_order p none)

  -- nor does one for which there is no room
  pub no_room_leaves : no_room r.nxt.0 p (ranges_of r.held) ≡ true → taken r p ≡ r
  unfolding holding
  no_room_leaves full =
      taken_later r p (λ zero. omega (arith, (no_room_full r.nxt.0 p (ranges_of r.held) full).later))
      ∙ rw (full_leaves r.nxt.0 p (ranges_of r.held) full, ← s.canonical.form)

-- LEN 0
pub empty_part_lem : (r : Receive) (seq : ℕ) → Sound r → taken r (new_part r seq 0) ≡ r
empty_part_lem r seq s = ap (taken r) (nothing_sent r seq 0 refl) ∙ empty_leaves r s empty_part (omega arith)

-- a segment that is not acceptable
pub outside_leaves : (r : Receive) (seq len : ℕ) → Sound r → acceptable r seq len ≡ false → taken r (new_part r seq len) ≡ r
outside_leaves r seq len s outside = ap (taken r) (not_acceptable r seq len outside) ∙ empty_leaves r s empty_part (omega arith)
