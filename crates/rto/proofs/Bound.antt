-- Demand 3 is met. Assumes nothing.
use Prim.Native.Nat.{ℕ, ◌*◌, ◌≤◌, ◌<◌}
use mathlib.Core.Path.{◌≡◌, refl, sym, ◌∙◌}
use mathlib.Core.Bool.{Bool, true, false, false≢true}
use mathlib.Core.List.{List, [], ◌∷◌, ◌++◌}
use native.Mathlib.Nat.{mul-pos}
use native.Mathlib.Omega.{arith}
use Rattle.rto.specs.declared.Timer.{Timer}
use Rattle.rto.specs.Timer.{apart, is_accepted, limited, new_timer, sampled_by, whole_ms, with_margin}
use Rattle.rto.specs.Calls.{Call, sample, expiry, called, run}
use Rattle.rto.specs.Fractions.{Fraction, Is, whole}
use Rattle.rto.specs.Exact.{Exact, unset, set, exact_called, exact_run, exact_sampled, within_limits}
use Rattle.rto.specs.Demand.{Demand3, OnTime, RefusedSamples}
use Rattle.rto.proofs.Rounding.{mean_is}
use Rattle.rto.proofs.Fractions.{whole_is}
use Rattle.rto.proofs.Exact.{rttvar_is, srtt_is, value_is}
use Rattle.rto.proofs.Claim.{on_time_exactly}
use Rattle.rto.proofs.Near.{Near, near_next, near_on_time}
use Rattle.rto.proofs.Calls.{run_append}
use Rattle.rto.proofs.Refusal.{accepted_exactly, accepted_moves, refusal_leaves, tests_agree}
use Rattle.rto.proofs.Sampling.{Fresh, fresh_sampled}

-- How far rounding leads S and V away, by weights of 1/(8N) and 1/(4N) with N up to 16. The margin is slack-s + 4 slack-v.
abbrev slack_s : ℕ
slack_s = 127

abbrev slack_v : ℕ
slack_v = 190

-- The exact S and V, s and v, are whole numbers over one denominator, and the timer's, a and b, are near them.
record Tracked (a b : ℕ) (s v : Fraction) : Type 0 where
  d : ℕ
  m : ℕ
  n : ℕ
  positive : 0 < d
  s_is : Is s m d
  v_is : Is v n d
  near : Near slack_s slack_v d m n a b

-- The timer's S and V are set when the exact ones are, and near them.
abbrev Tracks : Timer → Exact → Type 0
Tracks t unset = t.sampled ≡ false
Tracks t (set s v) = (t.sampled ≡ true) × Tracked t.srtt t.rttvar s v

tracks_sampled : (t : Timer) (e : Exact) (r n : ℕ) → 1 ≤ n → n ≤ 16 → Tracks t e → Tracks (sampled_by t r n) (exact_sampled e r n)
tracks_sampled t unset r n least most h =
    rw h (
      refl,
      record {
        d = 1;
        m = 256 * r * 1;
        n = 128 * r * 1;
        positive = omega arith;
        s_is = whole_is (256 * r) 1;
        v_is = whole_is (128 * r) 1;
        near = omega arith;
      },
    )
tracks_sampled t (set s v) r n least most h =
    let x : ℕ = 256 * r in
    let now = h.1 in
    let next = near_next (8 * n) (4 * n) slack_s slack_v (omega arith) (omega arith) (omega arith) (omega arith) in
    rw h.0 (
      refl,
      record {
        d = 8 * n * now.d;
        m = _;
        n = _;
        positive = mul-pos {m = 8 * n} (omega arith) now.positive;
        s_is = srtt_is now.s_is now.v_is r n least;
        v_is = rttvar_is now.s_is now.v_is r n least;
        near =
            next now.d now.m now.n t.srtt t.rttvar x _ _ now.near
            (mean_is (8 * n) (omega arith) t.srtt x)
            (mean_is (4 * n) (omega arith) t.rttvar (apart t.srtt x));
      },
    )

tracks_called : (t : Timer) (e : Exact) (c : Call) → Tracks t e → Tracks (called t c) (exact_called e c)
tracks_called t e (sample r n) h = pick (is_accepted r n) refl
  where
    pick : (b : Bool) → is_accepted r n ≡ b → Tracks (called t (sample r n)) (exact_called e (sample r n))
    pick true accepted =
        let expected = ((accepted_exactly r n).0 accepted).1 in
        rw (accepted_moves t r n accepted, sym (tests_agree r n) ∙ accepted)
        (tracks_sampled t e r n expected.0 expected.1 h)
    pick false refused = rw (refusal_leaves t r n refused, sym (tests_agree r n) ∙ refused) h
tracks_called t unset expiry h = h
tracks_called t (set s v) expiry h = h

tracks_run : (cs : List Call) (t : Timer) (e : Exact) → Tracks t e → Tracks (run t cs) (exact_run e cs)
tracks_run [] t e h = h
tracks_run (c ∷ cs) t e h = tracks_run cs (called t c) (exact_called e c) (tracks_called t e c h)

run_refused : (cs : List Call) (t : Timer) → RefusedSamples cs → run t cs ≡ t
run_refused [] t refused = refl
run_refused (sample r n ∷ cs) t refused =
    rw (refusal_leaves t r n (tests_agree r n ∙ refused.0)) (run_refused cs t refused.1)
run_refused (expiry ∷ cs) t refused = absurd refused

fresh_run :
    (before : List Call) (t : Timer) (r n : ℕ) (after : List Call) → within_limits r n ≡ true → RefusedSamples after →
    Fresh (run t (before ++ (sample r n ∷ after)))
fresh_run before t r n after within last =
    let u = run t before in
    rw (
      run_append t before (sample r n ∷ after),
      run_refused after (called u (sample r n)) last,
      accepted_moves u r n (tests_agree r n ∙ within),
    )
    (fresh_sampled u r n)

fresh_on_time : (t : Timer) (e : Exact) → Fresh t → Tracks t e → OnTime t.timeout e
fresh_on_time t unset fresh h = absurd (false≢true (sym h ∙ fresh.0))
fresh_on_time t (set s v) fresh h =
    let now = h.1 in
    let ms : ℕ = whole_ms (with_margin t.srtt t.rttvar) in
    let bounds = near_on_time slack_s slack_v now.d now.m now.n t.srtt t.rttvar ms now.near in
    let close = bounds (omega arith) (omega arith) in
    rw fresh.1
    ((on_time_exactly s v (value_is now.s_is now.v_is) (omega (arith, now.positive)) (limited ms)).1
    (close.0, omega (arith, close.1)))

pub demand_3 : Demand3
unfolding Demand3
demand_3 calls stands =
    fresh_on_time (run new_timer calls) (exact_run unset calls)
    (rw stands.split
    (fresh_run stands.before new_timer stands.rtt stands.expected stands.after stands.not_refused stands.last))
    (tracks_run calls new_timer unset refl)

-- The claim at an expiry, a sample and two refused ones: 3,004 ms beside an exact value of 3,000 ms.
demand_3_worked : OnTime 3004 (set (whole 256000) (whole 128000))
unfolding Demand3
demand_3_worked =
    demand_3 (expiry ∷ sample 1000 16 ∷ sample 600001 1 ∷ sample 1000 17 ∷ [])
    (record {
      before = expiry ∷ [];
      rtt = 1000;
      expected = 16;
      after = sample 600001 1 ∷ sample 1000 17 ∷ [];
      split = refl;
      not_refused = refl;
      last = (refl, (refl, tt));
    })
