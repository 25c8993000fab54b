-- One range more: where the part meets it, the part joined with it and those before; where not, the others with it. Assumes nothing.
use mathlib.Core.Bool.{true, false, not}
use mathlib.Core.List.{List, [], ◌∷◌, ◌++◌, append-nil}
use mathlib.Core.Path.{◌≡◌, sym, ap, ◌∙◌}
use Prim.Native.Nat.{ℕ, ◌+◌, ◌<◌, min, max}
use native.Mathlib.Omega.{arith}
use lib.ListN.{get_or, length, take}
use Rattle.std.proofs.lemmas.List.{take_more}
use Rattle.serial.specs.declared.Range.{Range}
use Rattle.receive.specs.declared.Held.{Held}
use Rattle.receive.specs.declared.Part.{Part}
use Rattle.receive.specs.Ranges.{held_of, joined, left_of, meets, ranges_of, right_of, unmet, unused}
use Rattle.receive.specs.Sound.{Canonical}
use Rattle.laws.proofs.Lists.{filter_append}
use Rattle.receive.proofs.Room.{unmet_most}
use Rattle.receive.proofs.Slots.{canonical_held, count_is, ranges_held}

module _ (nxt : ℕ) (p : Part) (l : List Range) (r : Range) where
  pub joined_more : (j : Part) → j ≡ joined nxt p l → meets nxt p r ≡ true
      → ◌≡◌ {A = Part} record { from = min (left_of nxt r) j.from; to = max (right_of nxt r) j.to } (joined nxt p (r ∷ l))
  unfolding joined
  joined_more j is t = rw t (ap (λ (x : Part). record { from = min (left_of nxt r) x.from; to = max (right_of nxt r) x.to }) is)

  pub joined_same : meets nxt p r ≡ false → joined nxt p (r ∷ l) ≡ joined nxt p l
  unfolding joined
  joined_same t = rw t

  unmet_same : meets nxt p r ≡ true → unmet nxt p (l ++ r ∷ []) ≡ unmet nxt p l
  unmet_same t = filter_append (λ x. not (meets nxt p x)) l (r ∷ []) ∙ rw t (append-nil (unmet nxt p l))

  unmet_more : meets nxt p r ≡ false → unmet nxt p (l ++ r ∷ []) ≡ unmet nxt p l ++ r ∷ []
  unmet_more t = filter_append (λ x. not (meets nxt p x)) l (r ∷ []) ∙ rw t

-- a slot is left for one more where fewer than eight have been passed
pub slot_left : (nxt : ℕ) (p : Part) (l : List Range) (h : Held) → h ≡ held_of (unmet nxt p l) → length l < 8
    → Canonical h × (h.count < 8)
slot_left nxt p l h is few = (
  rw is (canonical_held _ (omega (arith, unmet_most nxt p l))),
  omega (arith, count_is h (unmet nxt p l) is, unmet_most nxt p l),
)

-- the range in place i of a list, where h holds those before it that the part does not meet
module _ (nxt : ℕ) (p : Part) (l : List Range) (i : ℕ) (below : i < length l) (h : Held) (is : h ≡ held_of (unmet nxt p (take i l))) where
  abbrev here : Range
  here = get_or l i unused

  passed : take (i + 1) l ≡ take i l ++ here ∷ []
  passed = take_more l i unused below

  pub meets_here : meets nxt p here ≡ true → h ≡ held_of (unmet nxt p (take (i + 1) l))
  meets_here t = rw passed (is ∙ ap held_of (sym (unmet_same nxt p (take i l) here t)))

  pub misses_here : meets nxt p here ≡ false → (t : Held) → t ≡ held_of (ranges_of h ++ here ∷ [])
      → t ≡ held_of (unmet nxt p (take (i + 1) l))
  misses_here f t put = rw passed (put ∙ rw (is, ranges_held) (ap held_of (sym (unmet_more nxt p (take i l) here f))))
