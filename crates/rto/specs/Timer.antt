-- The retransmission timer (document 01, "The timer", and document 02, P4). S and V are in 1/256 ms, a sample R and the timer's value in ms. The
-- N that a sample brings is RFC 7323's ExpectedSamples: how many samples a round trip is expected to give.
use Rattle.std.specs.Prelude.{Bool, true, false, cond, ◌&&◌, ◌≡◌, ℕ, ◌+◌, ◌-◌, ◌*◌, ◌/◌, ◌≤◌, ◌<◌, min, max, leb, Result, Ok, Err}
use Rattle.std.proofs.Math.Option.{Option, none, some}
use Rattle.std.proofs.Common.{arith}
use Rattle.rto.specs.declared.Timer.{Timer}
use Rattle.rto.specs.declared.SampleRefused.{SampleRefused}

-- a new timer: 1,000 ms and no sample
abbrev pub new_timer : Timer
new_timer = record { srtt = 0; rttvar = 0; sampled = false; timeout = 1000 }

-- |a - b|
abbrev pub apart : ℕ → ℕ → ℕ
apart a b = (a - b) + (b - a)

-- the mean in which x weighs 1/c and the old value the rest, rounded down
abbrev pub mean : ℕ → ℕ → ℕ → ℕ
mean c old x = ((c - 1) * old + x) / c

-- later, with the old S in both: V = floor(((4N-1)V + |S - 256R|)/(4N)), S = floor(((8N-1)S + 256R)/(8N))
abbrev pub next_rttvar : ℕ → ℕ → ℕ → ℕ → ℕ
next_rttvar s v r n = mean (4 * n) v (apart s (256 * r))

abbrev pub next_srtt : ℕ → ℕ → ℕ → ℕ
next_srtt s r n = mean (8 * n) s (256 * r)

-- S + max(256, 4V) + 887
abbrev pub with_margin : ℕ → ℕ → ℕ
with_margin s v = s + max 256 (4 * v) + 887

-- x/c rounded up
abbrev pub rounded_up : ℕ → ℕ → ℕ
rounded_up x c = (x + (c - 1)) / c

-- the least whole ms not below x/256
abbrev pub whole_ms : ℕ → ℕ
whole_ms x = rounded_up x 256

-- raised to 1,000 ms or cut to 60,000 ms
abbrev pub limited : ℕ → ℕ
limited ms = min 60000 (max 1000 ms)

abbrev pub timeout_of : ℕ → ℕ → ℕ
timeout_of s v = limited (whole_ms (with_margin s v))

-- a timer whose S and V a sample has set
abbrev pub estimated_by : ℕ → ℕ → Timer
estimated_by s v = record { srtt = s; rttvar = v; sampled = true; timeout = timeout_of s v }

-- the first sample, whatever its N: S = 256R, V = 128R
abbrev pub first : ℕ → Timer
first r = estimated_by (256 * r) (128 * r)

abbrev pub later : ℕ → ℕ → ℕ → ℕ → Timer
later s v r n = estimated_by (next_srtt s r n) (next_rttvar s v r n)

-- the timer after a sample that is not refused
abbrev pub sampled_by : Timer → ℕ → ℕ → Timer
sampled_by t r n = cond t.sampled (later t.srtt t.rttvar r n) (first r)

-- E14: a sample above 600,000 ms is refused, and one with an N outside 1 to 16
abbrev pub is_accepted : ℕ → ℕ → Bool
is_accepted r n = leb r 600000 && (leb 1 n && leb n 16)

-- a sample's answer in document 01's terms: 0 and the timer after it, or the refusal's number alone
pub record Answer : Type 0 where
  pub number : ℕ
  pub timer : Option Timer

abbrev pub answered : Timer → ℕ → ℕ → Answer
answered t r n =
    cond (is_accepted r n) (record { number = 0; timer = some (sampled_by t r n) }) (record { number = 14; timer = none })

-- E14
abbrev pub number_of : SampleRefused → ℕ
number_of why = 14

pub number_positive : (why : SampleRefused) → 0 < number_of why
number_positive why = omega arith

-- the same of the answer that the code gives
abbrev pub shown : Result Timer SampleRefused → Answer
shown (Ok t) = record { number = 0; timer = some t }
shown (Err why) = record { number = number_of why; timer = none }

-- doubled, up to 60,000 ms
abbrev pub twice : ℕ → ℕ
twice ms = min 60000 (2 * ms)

-- an expiry: S and V stay
abbrev pub expired : Timer → Timer
expired t = record { srtt = t.srtt; rttvar = t.rttvar; sampled = t.sampled; timeout = twice t.timeout }

-- The timer from S and V (document 01, "The gateway's side"): 0 where one of them is above 153,600,000, which is 256 times E14's limit of a sample.
abbrev pub milliseconds_of : ℕ → ℕ → ℕ
milliseconds_of s v = cond (leb s 153600000 && leb v 153600000) (timeout_of s v) 0

-- what holds of every timer that the operations give back; none of them asks it
pub record Sound (t : Timer) : Type 0 where
  pub srtt_most : t.srtt ≤ 153600000
  pub rttvar_most : t.rttvar ≤ 153600000
  pub timeout_least : 1000 ≤ t.timeout
  pub timeout_most : t.timeout ≤ 60000
  pub unset : t.sampled ≡ false → (t.srtt ≡ 0) × (t.rttvar ≡ 0)
