-- What is written is read back as the same number: one law over the width. Assumes nothing.
use Prim.Native.Nat.{ℕ, zero, suc, ◌+◌, ◌*◌, ◌/◌, ◌%◌, ◌^◌, ◌≤◌}
use native.Mathlib.Nat.{div-one, div-add-mod'}
use native.Mathlib.Omega.{arith}
use mathlib.Core.Path.{◌≡◌, refl, sym, ap, ◌∙◌}
use mathlib.Core.List.{List, [], ◌∷◌, ◌++◌, append_assoc}
use lib.ListN.{drop, length, take}
use lib.Seq.{length-take-le, sets, sets-eq}
use Rattle.octets.specs.Octets.{big_endian, number_at}
use Rattle.octets.proofs.HighestFirst.{number_at_after}

pub length_big_endian : (w n : ℕ) → length (big_endian w n) ≡ w
unfolding big_endian
length_big_endian zero n = refl
length_big_endian (suc w) n = ap suc (length_big_endian w (n % 256 ^ w))

pub number_at_within : (w : ℕ) (front octets : List ℕ) → number_at w (front ++ octets) (length front) ≡ number_at w octets 0
number_at_within w [] octets = refl
number_at_within w (x ∷ front) octets = number_at_after w (length front) x (front ++ octets) ∙ number_at_within w front octets

-- the number that stands first in octets, whatever follows it
pub number_at_big_endian : (w n : ℕ) (later : List ℕ) → number_at (suc w) (big_endian (suc w) n ++ later) 0 ≡ n
unfolding big_endian number_at
number_at_big_endian zero n later = simp div-one (omega arith)
number_at_big_endian (suc w) n later =
    let b : ℕ = 256 ^ suc w in
    let lower : List ℕ = big_endian (suc w) (n % b) ++ later in
    ap (λ (k : ℕ). n / b * b + k) (number_at_after (suc w) 0 (n / b) lower ∙ number_at_big_endian w (n % b) later)
    ∙ div-add-mod' n b

-- a number that was written with room for it is read back
pub read_back : (w n at : ℕ) (octets : List ℕ) → at + suc w ≤ length octets
    → number_at (suc w) (sets octets at (big_endian (suc w) n)) at ≡ n
read_back w n at octets room =
    let written : List ℕ = big_endian (suc w) n in
    let size : length written ≡ suc w = length_big_endian (suc w) n in
    let front : length (take at octets) ≡ at = length-take-le at octets (omega arith) in
    let later : List ℕ = written ++ drop (at + length written) octets in
    ap (λ (l : List ℕ). number_at (suc w) l at) (sets-eq written octets at (omega arith) ∙ append_assoc (take at octets) written _)
    ∙ ap (λ (k : ℕ). number_at (suc w) (take at octets ++ later) k) (sym front)
    ∙ number_at_within (suc w) (take at octets) later
    ∙ number_at_big_endian w n (drop (at + length written) octets)
