-- Those that pass a test, of a list and of one element more; of at most four none is left out. Assumes nothing.
use mathlib.Core.Bool.{Bool, true, false}
use mathlib.Core.List.{List, [], ◌∷◌, ◌++◌, append-nil}
use mathlib.Core.Path.{◌≡◌, sym, ap, ◌∙◌}
use Prim.Native.Nat.{ℕ, ◌+◌, ◌≤◌, ◌<◌}
use native.Mathlib.Omega.{arith}
use lib.ListN.{get_or, length, take}
use Rattle.std.proofs.Common.{length-append}
use Rattle.std.proofs.lemmas.List.{length-take-le, take_all, take_more}
use Rattle.laws.specs.Lists.{filter}
use Rattle.laws.proofs.Lists.{filter_append, length_filter}

module _ {A : Type 0} (p : A → Bool) (l : List A) (n : ℕ) (d : A) (more : n < length l) where
  one_more : filter p (take (n + 1) l) ≡ filter p (take n l) ++ filter p (get_or l n d ∷ [])
  one_more = ap (filter p) (take_more l n d more) ∙ filter_append p (take n l) (get_or l n d ∷ [])

  pub one_passes : p (get_or l n d) ≡ true → length l ≤ 4 → take 4 (filter p (take n l) ++ (get_or l n d ∷ [])) ≡ filter p (take (n + 1) l)
  one_passes passes few =
      let kept : filter p (get_or l n d ∷ []) ≡ get_or l n d ∷ [] = rw passes in
      let short : length (filter p (take n l) ++ (get_or l n d ∷ [])) ≤ 4 =
      simp length-append (omega (arith, length_filter p (take n l), length-take-le n l (omega arith))) in
      take_all 4 _ short ∙ sym (rw kept at one_more)

  pub one_fails : p (get_or l n d) ≡ false → filter p (take n l) ≡ filter p (take (n + 1) l)
  one_fails fails =
      let left : filter p (get_or l n d ∷ []) ≡ [] = rw fails in
      sym ((rw left at one_more) ∙ append-nil _)
