-- Verdict 30 exactly; a part joined with the ranges that it meets, and put first where a slot is left, gives the ranges after it. Assumes
-- nothing.
use mathlib.Core.Bool.{Bool, true, false, not, ◌&&◌, ◌||◌, and-false, true≢false}
use mathlib.Core.List.{List, [], ◌∷◌}
use mathlib.Core.Logic.{◌↔◌, ◌⊎◌, inl, inr, ⊎_map}
use mathlib.Core.Path.{◌≡◌, refl, ap}
use Prim.Native.Nat.{ℕ, ◌≤◌, ◌<◌}
use native.Mathlib.Omega.{arith}
use lib.Dec.{eqb, leb, ltb}
use lib.ListN.{length}
use borrow.Author.Tests.{eq-eqb, eqb-false, eqb-true, le-ltb, leb-false, lt-leb, lt-ltb, ltb-true, not-true}
use Rattle.std.specs.List.{list_any}
use Rattle.serial.specs.declared.Range.{Range}
use Rattle.receive.specs.declared.Part.{Part}
use Rattle.receive.specs.declared.Receive.{Receive}
use Rattle.laws.specs.Lists.{Each, any}
use Rattle.laws.specs.Lists.Each.{none, more}
use Rattle.receive.specs.Ranges.{is_out_of_order, joined, left_of, meets, no_room, range_of, ranges_after, ranges_of, right_of, unmet}
use Rattle.receive.specs.Window.{lacks_room, new_part}
use Rattle.receive.specs.Internal.{with_first}
use Rattle.laws.proofs.Choices.{both_true, one_false}
use Rattle.laws.proofs.Lists.{each_map, fewer_others, filter_others, length_filter, none_passes}
use Rattle.receive.proofs.Slots.{first_full, first_room}

-- std's word for the test
pub any_listed : (p : Range → Bool) (l : List Range) → list_any p l ≡ any p l
any_listed p [] = refl
any_listed p (r ∷ l) = ap (λ b. p r || b) (any_listed p l)

none_any : {A : Type 0} (p : A → Bool) {l : List A} → Each (λ x. p x ≡ false) l → any p l ≡ false
none_any p none = refl
none_any p (more h e) = rw h (none_any p e)

pub none_out_of_order : (p : Part) → p.to ≤ p.from → is_out_of_order p ≡ false
unfolding is_out_of_order
none_out_of_order p order = rw (le-ltb p.from p.to order) (and-false (ltb 0 p.from))

module _ (nxt : ℕ) (p : Part) (l : List Range) where
  pub unmet_most : length (unmet nxt p l) ≤ length l
  unmet_most = length_filter (λ r. not (meets nxt p r)) l

  -- where verdict 30 does not hold, a slot is left for the joined range
  pub room : is_out_of_order p ≡ true → no_room nxt p l ≡ false → length l ≤ 8 → length (unmet nxt p l) < 8
  unfolding no_room
  room beyond free few = pick (eqb (length l) 8) refl (any (meets nxt p) l) refl (rw beyond at free)
    where
      pick : (e : Bool) → eqb (length l) 8 ≡ e → (s : Bool) → any (meets nxt p) l ≡ s → e && not s ≡ false → length (unmet nxt p l) < 8
      pick true e true s t = omega (arith, eqb-true (length l) 8 e, fewer_others (meets nxt p) l s)
      pick true e false s t = absurd (true≢false t)
      pick false e s h t = omega (arith, eqb-false (length l) 8 e, unmet_most)

  -- where it holds, the part meets none of the eight
  none_met : no_room nxt p l ≡ true → (unmet nxt p l ≡ l) × (length l ≡ 8)
  unfolding no_room
  none_met full =
      let tests = both_true (eqb (length l) 8) (is_out_of_order p && not (any (meets nxt p) l)) full in
      let others = both_true (is_out_of_order p) (not (any (meets nxt p) l)) tests.1 in
      (filter_others (meets nxt p) (none_passes (meets nxt p) l (not-true _ others.1)), eqb-true _ _ tests.0)

  pub put_after : is_out_of_order p ≡ true → length l ≤ 8 → with_first (range_of nxt (joined nxt p l)) (unmet nxt p l) ≡ ranges_after nxt p l
  unfolding ranges_after
  put_after beyond few = pick (no_room nxt p l) refl
    where
      pick : (n : Bool) → no_room nxt p l ≡ n → with_first (range_of nxt (joined nxt p l)) (unmet nxt p l) ≡ ranges_after nxt p l
      pick true n =
          let none = none_met n in
          rw (beyond, n, none.0) (first_full _ l (omega (arith, none.1)))
      pick false n = rw (beyond, n) (first_room _ _ (room beyond n few))

  -- verdict 30 exactly: eight are held, the part is not empty, does not start at 0, and neither overlaps nor touches any
  pub record Full : Type 0 where
    pub eight : length l ≡ 8
    pub later : 0 < p.from
    pub filled : p.from < p.to
    pub apart : Each (λ r. (p.to < left_of nxt r) ⊎ (right_of nxt r < p.from)) l

  pub no_room_full : no_room nxt p l ≡ true → Full
  unfolding no_room is_out_of_order meets
  no_room_full full =
      let tests = both_true (eqb (length l) 8) (is_out_of_order p && not (any (meets nxt p) l)) full in
      let part = both_true (is_out_of_order p) (not (any (meets nxt p) l)) tests.1 in
      let ends = both_true (ltb 0 p.from) (ltb p.from p.to) part.0 in
      record {
        eight = eqb-true _ _ tests.0;
        later = ltb-true _ _ ends.0;
        filled = ltb-true _ _ ends.1;
        apart =
            each_map
            (λ r t.
            ⊎_map (leb-false _ _) (leb-false _ _) (one_false (leb (left_of nxt r) p.to) (leb p.from (right_of nxt r)) (ap not t)))
            (none_passes (meets nxt p) l (not-true _ part.1));
      }

  pub full_no_room : Full → no_room nxt p l ≡ true
  unfolding no_room is_out_of_order meets
  full_no_room f =
      rw (eq-eqb _ _ f.eight, lt-ltb _ _ f.later, lt-ltb _ _ f.filled, none_any (meets nxt p) (each_map apart_unmet f.apart))
    where
      apart_unmet : (r : Range) → (p.to < left_of nxt r) ⊎ (right_of nxt r < p.from) → meets nxt p r ≡ false
      apart_unmet r (inl h) = rw (lt-leb (left_of nxt r) p.to h)
      apart_unmet r (inr h) = rw (lt-leb p.from (right_of nxt r) h) (and-false (leb (left_of nxt r) p.to))

  -- then the ranges stay
  pub full_leaves : no_room nxt p l ≡ true → ranges_after nxt p l ≡ l
  unfolding ranges_after
  full_leaves full = rw (full, and-false (is_out_of_order p))

  -- where there is room, a part that is not empty and does not start at 0 is put first
  pub joins_first : 0 < p.from → p.from < p.to → no_room nxt p l ≡ false
      → ranges_after nxt p l ≡ range_of nxt (joined nxt p l) ∷ unmet nxt p l
  unfolding ranges_after is_out_of_order
  joins_first later filled free = rw (lt-ltb 0 p.from later, lt-ltb p.from p.to filled, free)

  -- one that is empty or starts at 0 leaves the ranges
  pub near_leaves : is_out_of_order p ≡ false → ranges_after nxt p l ≡ l
  unfolding ranges_after
  near_leaves near = rw near

-- so of a segment: exactly where its new part has no room
pub lacks_room_exactly : (r : Receive) (seq len : ℕ) → lacks_room r seq len ≡ true ↔ Full r.nxt.0 (new_part r seq len) (ranges_of r.held)
unfolding lacks_room
lacks_room_exactly r seq len =
    let p : Part = new_part r seq len in
    let l : List Range = ranges_of r.held in
    (λ lacks. no_room_full r.nxt.0 p l lacks, λ full. full_no_room r.nxt.0 p l full)
