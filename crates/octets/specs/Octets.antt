-- Numbers in a list of octets, big-endian: the highest octet first; and octets stored at the start of a buffer.
use Rattle.std.specs.Prelude.{ℕ, zero, suc, ◌+◌, ◌*◌, ◌/◌, ◌%◌, ◌^◌, ◌<◌, List, [], ◌∷◌, ◌++◌, drop, get_or, length}

-- each element is below 256
pub record Octets (l : List ℕ) : Type 0 where
  pub each : (i : ℕ) → get_or l i 0 < 256

-- the number of w octets at a place; an octet past the end counts as 0
unfoldable pub number_at : ℕ → List ℕ → ℕ → ℕ
number_at zero octets at = 0
number_at (suc w) octets at = get_or octets at 0 * 256 ^ w + number_at w octets (suc at)

-- a number below 256 ^ w in w octets
unfoldable pub big_endian : ℕ → ℕ → List ℕ
big_endian zero n = []
big_endian (suc w) n = n / 256 ^ w ∷ big_endian w (n % 256 ^ w)

-- the octets at the start of the buffer; later octets stay
abbrev pub stored : List ℕ → List ℕ → List ℕ
stored octets buffer = octets ++ drop (length octets) buffer

-- the w octets at a place; an octet past the end is 0
unfoldable pub octets_at : ℕ → List ℕ → ℕ → List ℕ
octets_at zero octets at = []
octets_at (suc w) octets at = get_or octets at 0 ∷ octets_at w octets (suc at)
