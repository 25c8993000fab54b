-- A part that does not start at 0 is put first among the ranges, joined with those that it overlaps or touches; the rest keep their order.
-- Assumes nothing.
use mathlib.Core.Bool.{Bool, true, false, not}
use mathlib.Core.List.{List, [], ◌∷◌}
use mathlib.Core.Path.{◌≡◌, sym, subst, ◌∙◌}
use Prim.Native.Nat.{ℕ, ◌≤◌, ◌<◌}
use native.Mathlib.Omega.{arith}
use Rattle.laws.specs.Lists.{filter}
use Rattle.serial.specs.Serial.{offset_of}
use Rattle.serial.specs.declared.Range.{Range}
use Rattle.receive.specs.declared.Part.{Part}
use Rattle.receive.specs.declared.Receive.{Receive}
use Rattle.receive.specs.Coverage.{is_in}
use Rattle.receive.specs.Ranges.{joined, lies_in, meets, no_room, range_of, ranges_after, ranges_of, unmet}
use Rattle.receive.specs.Sound.{Sound}
use Rattle.receive.specs.Taking.{advanced, holding, taken}
use Rattle.laws.proofs.Choices.{either}
use Rattle.receive.proofs.Coverage.{part_joined}
use Rattle.receive.proofs.Room.{joins_first}
use Rattle.receive.proofs.Slots.{ranges_held}
use Rattle.receive.proofs.Taken.{taken_first, taken_later}

-- some of a list, in their order
pub data Among {A : Type 0} : List A → List A → Type 0 where
  no_more : Among [] []
  passed : {y : A} {xs ys : List A} → Among xs ys → Among xs (y ∷ ys)
  kept : {x : A} {xs ys : List A} → Among xs ys → Among (x ∷ xs) (x ∷ ys)

filter_among : {A : Type 0} (p : A → Bool) (l : List A) → Among (filter p l) l
filter_among p [] = no_more
filter_among p (x ∷ xs) = either (λ l. Among l (x ∷ xs)) (p x) _ _ (λ _. kept (filter_among p xs)) (λ _. passed (filter_among p xs))

module _ (r : Receive) (p : Part) where
  -- where RCV.NXT advances, the ranges that do not leave keep their order
  pub others_stay : p.from ≡ 0 → Among (ranges_of (taken r p).held) (ranges_of r.held)
  unfolding advanced
  others_stay zero =
      rw (taken_first r p zero, ranges_held) (filter_among (λ x. not (meets r.nxt.0 p x)) (ranges_of r.held))

  pub record PutFirst (t : Receive) : Type 0 where
    pub first : Range
    pub rest : List Range
    pub ranges_are : ranges_of t.held ≡ first ∷ rest
    pub holds_part : (x : ℕ) → lies_in p (offset_of r.nxt.0 x) ≡ true → is_in x first ≡ true
    pub in_order : Among rest (ranges_of r.held)

  pub part_first : Sound r → p.to ≤ r.window → 0 < p.from → p.from < p.to → no_room r.nxt.0 p (ranges_of r.held) ≡ false
      → PutFirst (taken r p)
  unfolding holding
  part_first s within later filled room =
      subst PutFirst (sym (taken_later r p (λ zero. omega arith)))
      (record {
        first = range_of r.nxt.0 (joined r.nxt.0 p l);
        rest = unmet r.nxt.0 p l;
        ranges_are = held_is;
        holds_part = λ x. part_joined r s p within x filled;
        in_order = filter_among (λ x. not (meets r.nxt.0 p x)) l;
      })
    where
      l : List Range
      l = ranges_of r.held

      held_is : ranges_of (holding r p).held ≡ range_of r.nxt.0 (joined r.nxt.0 p l) ∷ unmet r.nxt.0 p l
      held_is = ranges_held (ranges_after r.nxt.0 p l) ∙ joins_first r.nxt.0 p l later filled room
