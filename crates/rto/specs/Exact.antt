-- The exact value that demand 3 holds a timer to: RFC 6298's with the weights of RFC 7323, Appendix G, worked from the calls' arguments alone
-- in fractions that are never rounded (document 01, "The timer", and document 02, P4).
use Rattle.std.specs.Prelude.{ℕ, ◌-◌, ◌*◌, ◌^◌, Bool, cond, ◌&&◌, List, [], ◌∷◌, ◌++◌, leb, length}
use Rattle.rto.specs.Calls.{Call, sample, expiry}
use Rattle.rto.specs.Fractions.{Fraction, Is, divided, gap, larger, smaller, sum, times, whole}

-- the exact S and V
pub data Exact : Type 0 where
  unset : Exact
  set : (s v : Fraction) → Exact

-- S = ((8N-1)S + 256R)/(8N)
abbrev pub exact_srtt : Fraction → ℕ → ℕ → Fraction
exact_srtt s r n = divided (sum (times (8 * n - 1) s) (whole (256 * r))) (8 * n)

-- V = ((4N-1)V + |S - 256R|)/(4N), with the old S
abbrev pub exact_rttvar : Fraction → Fraction → ℕ → ℕ → Fraction
exact_rttvar s v r n = divided (sum (times (4 * n - 1) v) (gap s (whole (256 * r)))) (4 * n)

-- the first sample, whatever its N: S = 256R, V = 128R
abbrev pub exact_sampled : Exact → ℕ → ℕ → Exact
exact_sampled unset r n = set (whole (256 * r)) (whole (128 * r))
exact_sampled (set s v) r n = set (exact_srtt s r n) (exact_rttvar s v r n)

-- E14 refuses a sample above 600,000 ms, and one with an N outside 1 to 16
abbrev pub within_limits : ℕ → ℕ → Bool
within_limits r n = leb r 600000 && (leb 1 n && leb n 16)

-- an expiry, or a sample that E14 refuses, leaves them
abbrev pub exact_called : Exact → Call → Exact
exact_called e (sample r n) = cond (within_limits r n) (exact_sampled e r n) e
exact_called e expiry = e

abbrev pub exact_run : Exact → List Call → Exact
exact_run e [] = e
exact_run e (c ∷ cs) = exact_run (exact_called e c) cs

-- (S + max(256, 4V))/256 ms, raised to 1,000 or cut to 60,000
abbrev pub exact_value : Fraction → Fraction → Fraction
exact_value s v =
    smaller (whole 60000) (larger (whole 1000) (divided (sum s (larger (whole 256) (times 4 v))) 256))

-- the N of a sample that is not refused
abbrev pub expected_of : Call → List ℕ
expected_of (sample r n) = cond (within_limits r n) (n ∷ []) []
expected_of expiry = []

-- the Ns of the samples that were not refused, in their order
abbrev pub accepted : List Call → List ℕ
accepted [] = []
accepted (c ∷ cs) = expected_of c ++ accepted cs

abbrev pub product : List ℕ → ℕ
product [] = 1
product (n ∷ ns) = n * product ns

-- a is a whole number over d
pub record WholeOver (d : ℕ) (a : Fraction) : Type 0 where
  pub number : ℕ
  pub is : Is a number d

-- S and V are set, to whole numbers over d
abbrev pub SetOver : ℕ → Exact → Type 0
SetOver d unset = ⊥
SetOver d (set s v) = WholeOver d s × WholeOver d v

-- after n samples that were not refused, S and V are whole numbers over 8^(n-1) times every later N
abbrev pub AfterSamples : List ℕ → Exact → Type 0
AfterSamples [] unset = Unit
AfterSamples [] (set s v) = ⊥
AfterSamples (first ∷ later) e = SetOver (8 ^ length later * product later) e
