-- Serial numbers (document 01, "Serial numbers and clocks"). The definitions are over plain numbers, so that sequence numbers and
-- timestamps share them. Of a whole number, `pos n` is n and `negsuc n` is -(n + 1).
use Rattle.std.specs.Prelude.{◌≡◌, ℕ, suc, ◌+◌, ◌-◌, ◌%◌, ◌^◌, ◌≤◌, Bool, ℤ, pos, negsuc, int_le, int_lt}
use Rattle.std.proofs.Math.IntN.{sub_ℕ}
use Rattle.serial.specs.declared.Range.{Range}

-- from -2^31 to 2^31 - 1
abbrev pub InRange : ℤ → Type 0
InRange (pos n) = n ≤ 2 ^ 31 - 1
InRange (negsuc n) = suc n ≤ 2 ^ 31

-- equal to b - a modulo 2^32: n where a + n is b modulo 2^32, and -(n + 1) where b + (n + 1) is a
abbrev pub Difference : ℕ → ℕ → ℤ → Type 0
Difference a b (pos n) = (a + n) % 2 ^ 32 ≡ b % 2 ^ 32
Difference a b (negsuc n) = (b + suc n) % 2 ^ 32 ≡ a % 2 ^ 32

-- document 01's "distance from a to b": the whole number in that range that is equal to b - a modulo 2^32
pub record IsDistance (a b : ℕ) (z : ℤ) : Type 0 where
  pub in_range : InRange z
  pub difference : Difference a b z

-- document 01's o(x): (x - base) mod 2^32
unfoldable pub offset_of : ℕ → ℕ → ℕ
offset_of base x = (x + (2 ^ 32 - base % 2 ^ 32)) % 2 ^ 32

-- the distance, as it is worked out: b - a + 2^31 modulo 2^32, less 2^31
unfoldable pub distance_of : ℕ → ℕ → ℤ
distance_of a b = sub_ℕ ((offset_of a b + 2 ^ 31) % 2 ^ 32) (2 ^ 31)

-- document 01's "a before b": the distance from a to b is above 0
abbrev pub is_before : ℕ → ℕ → Bool
is_before a b = int_lt (pos 0) (distance_of a b)

-- document 01's "a at or before b": it is at least 0
abbrev pub is_at_or_before : ℕ → ℕ → Bool
is_at_or_before a b = int_le (pos 0) (distance_of a b)

-- a, moved on by n
abbrev pub moved_by : ℕ → ℕ → ℕ
moved_by a n = (a + n) % 2 ^ 32

-- our timestamp: (clock + the connection's offset) mod 2^32
abbrev pub stamp_at : ℕ → ℕ → ℕ
stamp_at clock offset = (clock + offset) % 2 ^ 32

-- the sample R: (our timestamp - TSecr) mod 2^32
abbrev pub round_trip : ℕ → ℕ → ℕ
round_trip ours echoed = offset_of echoed ours

-- the sequence numbers from left up to right, which is not among them
abbrev pub range : ℕ → ℕ → Range
range left right = record { left = record { 0 = left }; right = record { 0 = right } }
