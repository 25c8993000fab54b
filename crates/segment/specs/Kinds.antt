-- The known kinds of option by their numbers.
use Rattle.std.specs.Prelude.{ℕ, false, ◌≡◌, Result, MatchResult}
use Rattle.segment.specs.Options.{is_known}
use Rattle.segment.specs.declared.kinds.Kind.{Kind}
use Rattle.segment.specs.declared.kinds.UnknownKind.{UnknownKind}

abbrev pub kind_number : Kind → ℕ
kind_number Kind.Mss = 2
kind_number Kind.WindowScale = 3
kind_number Kind.SackPermitted = 4
kind_number Kind.Sack = 5
kind_number Kind.Timestamps = 8

-- the kind of a number, if it is known
abbrev pub IsKind : ℕ → Result Kind UnknownKind → Type 0
IsKind n r = MatchResult r (λ kind. kind_number kind ≡ n) (λ _. is_known n ≡ false)
