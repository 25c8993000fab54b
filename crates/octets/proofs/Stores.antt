-- Octets stored one after the other, `sets` of `lib.Seq`, which leaves out those past the end of the list. Assumes nothing.
use mathlib.Core.Path.{◌≡◌, refl, sym, ap, ◌∙◌}
use mathlib.Core.List.{List, [], ◌∷◌, ◌++◌, append-nil, append_assoc}
use Prim.Native.Nat.{ℕ, suc, ◌+◌, ◌≤◌}
use native.Mathlib.Nat.{add-zero}
use native.Mathlib.Omega.{arith}
use lib.ListN.{drop, drop_of_length-le, length, length-append, length-drop, length-take, set, take}
use borrow.Rule.Slice.PartMut.{put_mid}
use lib.Seq.{drop-append_seam, drop-drop, length-sets, set_out, sets, sets-eq, take-append_seam}
use Rattle.std.proofs.Common.{take-append-drop}
use Rattle.octets.specs.Octets.{stored}

-- past the end nothing is stored
pub sets_out : (l : List ℕ) (i : ℕ) (vs : List ℕ) → length l ≤ i → sets l i vs ≡ l
sets_out l i [] h = refl
sets_out l i (a ∷ vs) h = rw (set_out l i a h) (sets_out l (suc i) vs (omega arith))

pub sets_append : (l : List ℕ) (i : ℕ) (xs ys : List ℕ) → sets (sets l i xs) (i + length xs) ys ≡ sets l i (xs ++ ys)
sets_append l i [] ys = ap (λ (k : ℕ). sets l k ys) (add-zero i)
sets_append l i (x ∷ xs) ys =
    let e : i + suc (length xs) ≡ suc i + length xs = omega arith in
    ap (λ (k : ℕ). sets (sets (set l i x) (suc i) xs) k ys) e ∙ sets_append (set l i x) (suc i) xs ys

-- one run of stores after another
pub sets_then : (l : List ℕ) {k m : List ℕ} (i : ℕ) (xs ys : List ℕ) → m ≡ sets l i xs → k ≡ sets m (i + length xs) ys → k ≡ sets l i (xs ++ ys)
sets_then l i xs ys first second =
    second ∙ ap (λ (n : List ℕ). sets n (i + length xs) ys) first ∙ sets_append l i xs ys

-- where the octets xs reach the end, those after them are left out
pub sets_cut : (l : List ℕ) (i : ℕ) (xs ys : List ℕ) → i + length xs ≡ length l → sets l i (xs ++ ys) ≡ take i l ++ xs
sets_cut l i xs ys end =
    sym (sets_append l i xs ys) ∙ sets_out (sets l i xs) (i + length xs) ys (omega (arith, length-sets l i xs))
    ∙ sets-eq xs l i (omega arith)
    ∙ ap (λ (k : List ℕ). (take i l ++ xs) ++ k) (drop_of_length-le l {i = i + length xs} (omega arith)) ∙ append-nil (take i l ++ xs)

-- Octets at the start of a buffer with room for them.
module _ (octets buffer : List ℕ) where
  pub sets_front : length octets ≤ length buffer → sets buffer 0 octets ≡ stored octets buffer
  sets_front room =
      let place : 0 + length octets ≡ length octets = omega arith in
      sets-eq octets buffer 0 (omega arith) ∙ ap (λ (n : ℕ). octets ++ drop n buffer) place

  pub first_stored : take (length octets) (stored octets buffer) ≡ octets
  first_stored = take-append_seam octets (drop (length octets) buffer)

  pub later_stored : drop (length octets) (stored octets buffer) ≡ drop (length octets) buffer
  later_stored = drop-append_seam octets (drop (length octets) buffer)

  pub length_stored : length octets ≤ length buffer → length (stored octets buffer) ≡ length buffer
  length_stored room = simp (length-append, length-drop) (omega arith)

-- Octets m stored in the place of the k octets from a place on, which lie within.
module _ (l m : List ℕ) (at k : ℕ) (room : at + k ≤ length l) (size : length m ≡ length (take k (drop at l))) where
  count : length m ≡ k
  count = omega (arith, size, length-take k (drop at l), length-drop at l)

  there : put_mid at k l m ≡ sets l at m
  there =
      let place : at + length m ≡ at + k = omega (arith, count) in
      let within : at + length m ≤ length l = omega (arith, count) in
      sym (sets-eq m l at within ∙ append_assoc (take at l) m _ ∙ ap (λ (n : ℕ). take at l ++ (m ++ drop n l)) place
      ∙ ap (λ (later : List ℕ). take at l ++ (m ++ later)) (sym (drop-drop k at l)))

  pub stored_whole : (xs : List ℕ) → m ≡ xs → put_mid at k l m ≡ sets l at xs
  stored_whole xs is = there ∙ ap (sets l at) is

  -- those of the octets xs that reach the end
  pub stored_cut : (xs : List ℕ) (n : ℕ) → at + k ≡ length l → m ≡ take n xs → put_mid at k l m ≡ sets l at xs
  stored_cut xs n end is =
      let past : length l ≤ at + length m = omega (arith, count) in
      let rest : List ℕ = drop n xs in
      there ∙ sym (sets_out (sets l at m) (at + length m) rest (omega (arith, length-sets l at m)))
      ∙ sets_append l at m rest
      ∙ ap (λ (k : List ℕ). sets l at (k ++ rest)) is ∙ ap (sets l at) (take-append-drop n xs)
