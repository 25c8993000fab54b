-- The number of an answer (document 01, "Numbers given when work is declined").
use Rattle.std.specs.Prelude.{ℕ, Result, Ok, Err}

-- 0 where nothing was refused, else the refusal's number
abbrev pub number_of : {T E : Type 0} → (E → ℕ) → Result T E → ℕ
number_of number (Ok answer) = 0
number_of number (Err why) = number why
