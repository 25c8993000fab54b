-- What the writer's stores leave, part by part. Assumes nothing.
use mathlib.Core.List.{List, ◌++◌}
use mathlib.Core.Path.{◌≡◌, ap, ◌∙◌}
use Prim.Native.Nat.{ℕ, ◌+◌, ◌/◌, ◌≤◌}
use native.Mathlib.Omega.{arith}
use lib.ListN.{length}
use lib.Seq.{sets}
use Rattle.octets.specs.Octets.{stored}
use Rattle.octets.proofs.Stores.{sets_front, sets_then}
use Rattle.segment.specs.declared.Options.{Options}
use Rattle.writer.specs.Writing.{header_written, options_written, written}
use Rattle.writer.specs.declared.Header.{Header}
use Rattle.writer.proofs.Lengths.{aligned_options, length_header, length_written}

-- a store at the place where the last one ended
next_stored : (l : List ℕ) {k m : List ℕ} (i : ℕ) (xs ys : List ℕ) (j : ℕ) → j ≡ i + length xs → m ≡ sets l i xs → k ≡ sets m j ys → k ≡ sets l i (xs ++ ys)
next_stored l {k} {m} i xs ys j place first second = sets_then l i xs ys first (second ∙ ap (λ (n : ℕ). sets m n ys) place)

-- header and options, one after the other
pub whole_stored : (h : Header) (o : Options) (l : List ℕ) {k m : List ℕ} (size : ℕ) → size ≡ length (written h o) → size ≤ length l
    → m ≡ sets l 0 (header_written h (size / 4)) → k ≡ sets m 20 (options_written o) → k ≡ stored (written h o) l
unfolding written
whole_stored h o l {k} {m} size e room first second =
    let units : size / 4 ≡ 5 + length (options_written o) / 4 = omega (arith, e, length_written h o, (aligned_options o).whole) in
    next_stored l 0 (header_written h (size / 4)) (options_written o) 20 (omega (arith, length_header h (size / 4))) first second
    ∙ (λ i. sets l 0 (header_written h (units i) ++ options_written o))
    ∙ sets_front (written h o) l (omega arith)
