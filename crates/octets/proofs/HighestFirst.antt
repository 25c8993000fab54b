-- The highest octet comes first, whatever the width, and an octet past the end counts as 0. Assumes nothing.
use mathlib.Core.Path.{◌≡◌, refl, ap}
use mathlib.Core.List.{List, [], ◌∷◌, ◌++◌}
use Prim.Native.Nat.{ℕ, zero, suc, ◌+◌, ◌*◌, ◌^◌, ◌≤◌}
use native.Mathlib.Omega.{arith}
use lib.ListN.{get_or, length, replicate, get_or-eq_default}
use Rattle.octets.specs.Octets.{number_at}

pub two_octets_lem : (a b : ℕ) (later : List ℕ) → number_at 2 (a ∷ b ∷ later) 0 ≡ a * 256 + b
unfolding number_at
two_octets_lem a b later = omega arith

pub four_octets : (a b c d : ℕ) (later : List ℕ) → number_at 4 (a ∷ b ∷ c ∷ d ∷ later) 0 ≡ a * 16777216 + b * 65536 + c * 256 + d
unfolding number_at
four_octets a b c d later = omega arith

-- what stands in front of a place does not matter to the number there
pub number_at_after : (w at : ℕ) (x : ℕ) (octets : List ℕ) → number_at w (x ∷ octets) (suc at) ≡ number_at w octets at
unfolding number_at
number_at_after zero at x octets = refl
number_at_after (suc w) at x octets =
    ap (λ (lower : ℕ). get_or octets at 0 * 256 ^ w + lower) (number_at_after w (suc at) x octets)

-- the first octet counts 256 ^ w, and the w octets after it are the rest
pub highest_first : (w a : ℕ) (later : List ℕ) → number_at (suc w) (a ∷ later) 0 ≡ a * 256 ^ w + number_at w later 0
unfolding number_at
highest_first w a later = ap (λ (rest : ℕ). a * 256 ^ w + rest) (number_at_after w 0 a later)

-- Past the end.
pub number_at_past : (w at : ℕ) (octets : List ℕ) → length octets ≤ at → number_at w octets at ≡ 0
unfolding number_at
number_at_past zero at octets past = refl
number_at_past (suc w) at octets past =
    rw (get_or-eq_default octets 0 past, number_at_past w (suc at) octets (omega arith)) (omega arith)

octet_past : (n at : ℕ) (octets : List ℕ) → get_or (octets ++ replicate n 0) at 0 ≡ get_or octets at 0
octet_past zero at [] = refl
octet_past (suc n) zero [] = refl
octet_past (suc n) (suc at) [] = octet_past n at []
octet_past n zero (a ∷ octets) = refl
octet_past n (suc at) (a ∷ octets) = octet_past n at octets

-- a number that runs past the end is as though octets 0 followed
pub zeros_follow : (w n at : ℕ) (octets : List ℕ) → number_at w (octets ++ replicate n 0) at ≡ number_at w octets at
unfolding number_at
zeros_follow zero n at octets = refl
zeros_follow (suc w) n at octets = λ i. octet_past n at octets i * 256 ^ w + zeros_follow w n (suc at) octets i
