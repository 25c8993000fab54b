-- What a sample that is not refused does to a timer (document 01, "The timer"). Assumes nothing.
use Prim.Native.Nat.{ℕ, ◌+◌, ◌-◌, ◌*◌, max, min}
use mathlib.Core.Bool.{Bool, true, false, cond}
use mathlib.Core.Path.{◌≡◌, refl, ◌∙◌}
use native.Mathlib.Omega.{arith}
use Rattle.rto.specs.declared.Timer.{Timer}
use Rattle.rto.specs.Timer.{apart, first, is_accepted, later, new_timer, sampled_by, timeout_of}
use Rattle.rto.specs.Calls.{called, sample}
use Rattle.rto.proofs.Refusal.{accepted_exactly, accepted_moves}
use Rattle.rto.proofs.Rounding.{Floor, mean_is}
use Rattle.rto.proofs.Value.{LeastNotBelow, value_least}

-- a new timer has 1,000 ms and no sample
pub new_timer_starts : (new_timer.timeout ≡ 1000) × (new_timer.sampled ≡ false)
new_timer_starts = (refl, refl)

-- S and V are set, and the present value is the one worked out of them: so after a sample, and until an expiry.
abbrev pub Fresh : Timer → Type 0
Fresh t = (t.sampled ≡ true) × (t.timeout ≡ timeout_of t.srtt t.rttvar)

pub fresh_sampled : (t : Timer) (r n : ℕ) → Fresh (sampled_by t r n)
fresh_sampled t r n = go t.sampled
  where
    go : (b : Bool) → Fresh (cond b (later t.srtt t.rttvar r n) (first r))
    go true = (refl, refl)
    go false = (refl, refl)

module _ (t : Timer) (r n : ℕ) (accepted : is_accepted r n ≡ true) where
  moves : called t (sample r n) ≡ sampled_by t r n
  moves = accepted_moves t r n accepted

  -- first sample, whatever its N: S = 256R, V = 128R
  pub first_sample : t.sampled ≡ false → ((called t (sample r n)).srtt ≡ 256 * r) × ((called t (sample r n)).rttvar ≡ 128 * r)
  first_sample unset = rw (moves, unset) (refl, refl)

  -- later, with the old S in both: V = floor(((4N-1)V + |S - 256R|)/(4N)), S = floor(((8N-1)S + 256R)/(8N))
  pub later_sample : t.sampled ≡ true
      → Floor ((4 * n - 1) * t.rttvar + ((t.srtt - 256 * r) + (256 * r - t.srtt))) (4 * n) (called t (sample r n)).rttvar
      × Floor ((8 * n - 1) * t.srtt + 256 * r) (8 * n) (called t (sample r n)).srtt
  later_sample set =
      let least = ((accepted_exactly r n).0 accepted).1.0 in
      rw (moves, set) (
        mean_is (4 * n) (omega arith) t.rttvar (apart t.srtt (256 * r)),
        mean_is (8 * n) (omega arith) t.srtt (256 * r),
      )

  -- S and V are set
  pub sample_sets : (called t (sample r n)).sampled ≡ true
  sample_sets = rw moves (fresh_sampled t r n).0

  -- timer = the least whole ms not below (S + max(256, 4V) + 887)/256, then raised to 1,000 or cut to 60,000
  pub sample_value : (m : ℕ) → LeastNotBelow 256 ((called t (sample r n)).srtt + max 256 (4 * (called t (sample r n)).rttvar) + 887) m
      → (called t (sample r n)).timeout ≡ min 60000 (max 1000 m)
  sample_value = rw moves (λ m h. (fresh_sampled t r n).1 ∙ value_least (sampled_by t r n).srtt (sampled_by t r n).rttvar m h)
