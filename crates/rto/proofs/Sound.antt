-- Every timer that calls lead to from a new one is sound. Assumes nothing.
use Prim.Native.Nat.{ℕ, ◌*◌, ◌≤◌}
use mathlib.Core.Path.{◌≡◌, refl, sym}
use mathlib.Core.Bool.{Bool, true, false, cond, false≢true}
use mathlib.Core.List.{List, [], ◌∷◌}
use native.Mathlib.Omega.{arith}
use Rattle.rto.specs.declared.Timer.{Timer}
use Rattle.rto.specs.Timer.{Sound, apart, estimated_by, first, is_accepted, later, new_timer, next_rttvar, next_srtt, sampled_by}
use Rattle.rto.specs.Calls.{Call, sample, expiry, called, run}
use Rattle.rto.proofs.Rounding.{mean_most}
use Rattle.rto.proofs.Refusal.{accepted_exactly, accepted_moves, refusal_leaves}

pub sound_new : Sound new_timer
sound_new =
    record {
      srtt_most = omega arith;
      rttvar_most = omega arith;
      timeout_least = omega arith;
      timeout_most = omega arith;
      unset = λ e. (refl, refl);
    }

sound_estimated : (s v : ℕ) → s ≤ 153600000 → v ≤ 153600000 → Sound (estimated_by s v)
sound_estimated s v hs hv =
    record {
      srtt_most = hs;
      rttvar_most = hv;
      timeout_least = omega arith;
      timeout_most = omega arith;
      unset = λ e. absurd (false≢true (sym e));
    }

sound_sampled : (t : Timer) (r n : ℕ) → Sound t → r ≤ 600000 → 1 ≤ n → Sound (sampled_by t r n)
sound_sampled t r n h most least = go t.sampled
  where
    go : (b : Bool) → Sound (cond b (later t.srtt t.rttvar r n) (first r))
    go true =
        sound_estimated (next_srtt t.srtt r n) (next_rttvar t.srtt t.rttvar r n)
        (mean_most (8 * n) (omega arith) t.srtt (256 * r) 153600000 (omega arith) (omega arith))
        (mean_most (4 * n) (omega arith) t.rttvar (apart t.srtt (256 * r)) 153600000 (omega arith) (omega arith))
    go false = sound_estimated (256 * r) (128 * r) (omega arith) (omega arith)

pub sound_called : (t : Timer) (c : Call) → Sound t → Sound (called t c)
sound_called t (sample r n) h = pick (is_accepted r n) refl
  where
    pick : (b : Bool) → is_accepted r n ≡ b → Sound (called t (sample r n))
    pick true accepted =
        let within = (accepted_exactly r n).0 accepted in
        rw (accepted_moves t r n accepted) (sound_sampled t r n h within.0 within.1.0)
    pick false refused = rw (refusal_leaves t r n refused) h
sound_called t expiry h =
    record {
      srtt_most = h.srtt_most;
      rttvar_most = h.rttvar_most;
      timeout_least = omega arith;
      timeout_most = omega arith;
      unset = h.unset;
    }

pub sound_run : (cs : List Call) (t : Timer) → Sound t → Sound (run t cs)
sound_run [] t h = h
sound_run (c ∷ cs) t h = sound_run cs (called t c) (sound_called t c h)

pub sound : (calls : List Call) → Sound (run new_timer calls)
sound calls = sound_run calls new_timer sound_new
