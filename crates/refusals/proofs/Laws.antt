-- An answer's number is 0 exactly where nothing was refused. Assumes nothing.
use Rattle.std.specs.Prelude.{◌≡◌, ℕ, ◌<◌, ◌↔◌, Result, Ok, Err, IsOk}
use Rattle.std.proofs.Common.{refl, arith}
use mathlib.Core.Bool.{false≢true}
use Rattle.refusals.specs.Number.{number_of}

pub zero_where_answered : {T E : Type 0} (number : E → ℕ) → ((why : E) → 0 < number why) → (answer : Result T E)
    → (number_of number answer ≡ 0) ↔ IsOk answer
zero_where_answered number positive (Ok answer) = (λ zero. refl, λ answered. refl)
zero_where_answered number positive (Err why) =
    (λ zero. let never : ⊥ = omega (arith, positive why) in absurd never, λ answered. absurd (false≢true answered))
