-- The slots that hold a list of ranges, and one range put first or last in them. Assumes nothing.
use mathlib.Core.List.{List, [], ◌∷◌, ◌++◌}
use mathlib.Core.Path.{◌≡◌, refl, sym, ap, ◌∙◌}
use Prim.Native.Nat.{◌+◌, ◌-◌, ◌≤◌, ◌<◌}
use native.Mathlib.Omega.{arith}
use lib.ListN.{drop, length, set, take}
use lib.Seq.{take-append_seam}
use borrow.Author.Tests.{le-ltb, lt-ltb}
use Rattle.std.proofs.lemmas.List.{length-take}
use Rattle.serial.specs.declared.Range.{Range}
use Rattle.receive.specs.declared.Held.{Held}
use Rattle.receive.specs.Ranges.{held_of, ranges_of}
use Rattle.receive.specs.Sound.{Canonical}
use Rattle.receive.specs.Internal.{with_first}

pub count_is : (h : Held) (l : List Range) → h ≡ held_of l → h.count ≡ length l
unfolding held_of
count_is h l e = ap (λ x. x.count) e

pub ranges_held : (l : List Range) → ranges_of (held_of l) ≡ l
unfolding ranges_of held_of
ranges_held l = take-append_seam l _

pub none_held : (h : Held) → h.count ≡ 0 → ranges_of h ≡ []
unfolding ranges_of
none_held h none = rw none

pub canonical_held : (l : List Range) → length l ≤ 8 → Canonical (held_of l)
unfolding held_of
canonical_held l h = record { few = h; form = ap held_of (sym (ranges_held l)) }

pub ranges_most : (h : Held) → length h.ranges ≡ 8 → length (ranges_of h) ≤ 8
unfolding ranges_of
ranges_most h eight = omega (arith, length-take h.count h.ranges)

pub length_ranges : (h : Held) → Canonical h → length (ranges_of h) ≡ h.count
length_ranges h k = sym (count_is h (ranges_of h) k.form)

-- the slots moved one on, and r in the first
abbrev shifted : Held → Range → Held
shifted h r = record {
  ranges = set (drop (length h.ranges - 1) h.ranges ++ take (length h.ranges - 1) h.ranges) 0 r;
  count = h.count + 1;
}

shifted_list : (r : Range) (l : List Range) → length l < 8 → shifted (held_of l) r ≡ held_of (r ∷ l)
unfolding held_of
shifted_list r [] h = refl
shifted_list r (a ∷ []) h = refl
shifted_list r (a ∷ b ∷ []) h = refl
shifted_list r (a ∷ b ∷ c ∷ []) h = refl
shifted_list r (a ∷ b ∷ c ∷ d ∷ []) h = refl
shifted_list r (a ∷ b ∷ c ∷ d ∷ e ∷ []) h = refl
shifted_list r (a ∷ b ∷ c ∷ d ∷ e ∷ f ∷ []) h = refl
shifted_list r (a ∷ b ∷ c ∷ d ∷ e ∷ f ∷ g ∷ []) h = refl
shifted_list r (a ∷ b ∷ c ∷ d ∷ e ∷ f ∷ g ∷ i ∷ l) h = absurd (omega arith)

-- a range put first, where a slot is left and where none is
pub first_room : (r : Range) (l : List Range) → length l < 8 → with_first r l ≡ r ∷ l
unfolding with_first
first_room r l few = rw (lt-ltb _ _ few)

pub first_full : (r : Range) (l : List Range) → 8 ≤ length l → with_first r l ≡ l
unfolding with_first
first_full r l full = rw (le-ltb _ _ full)

pub put_room : (r : Range) (h : Held) → Canonical h → h.count < 8 → shifted h r ≡ held_of (with_first r (ranges_of h))
put_room r h k few =
    let room : length (ranges_of h) < 8 = omega (arith, length_ranges h k) in
    ap (λ x. shifted x r) k.form ∙ shifted_list r (ranges_of h) room ∙ ap held_of (sym (first_room r (ranges_of h) room))

pub put_full : (r : Range) (h : Held) → Canonical h → 8 ≤ h.count → h ≡ held_of (with_first r (ranges_of h))
put_full r h k full = k.form ∙ ap held_of (sym (first_full r (ranges_of h) (omega (arith, length_ranges h k))))

-- r in the slot after the last that is used
abbrev added : Held → Range → Held
added h r = record { ranges = set h.ranges h.count r; count = h.count + 1 }

added_list : (r : Range) (l : List Range) → length l < 8 → added (held_of l) r ≡ held_of (l ++ r ∷ [])
unfolding held_of
added_list r [] h = refl
added_list r (a ∷ []) h = refl
added_list r (a ∷ b ∷ []) h = refl
added_list r (a ∷ b ∷ c ∷ []) h = refl
added_list r (a ∷ b ∷ c ∷ d ∷ []) h = refl
added_list r (a ∷ b ∷ c ∷ d ∷ e ∷ []) h = refl
added_list r (a ∷ b ∷ c ∷ d ∷ e ∷ f ∷ []) h = refl
added_list r (a ∷ b ∷ c ∷ d ∷ e ∷ f ∷ g ∷ []) h = refl
added_list r (a ∷ b ∷ c ∷ d ∷ e ∷ f ∷ g ∷ i ∷ l) h = absurd (omega arith)

pub put_last : (r : Range) (h : Held) → Canonical h → h.count < 8 → added h r ≡ held_of (ranges_of h ++ r ∷ [])
put_last r h k few = ap (λ x. added x r) k.form ∙ added_list r (ranges_of h) (omega (arith, length_ranges h k))
