-- Expiry doubles the timer, up to 60,000; S and V stay (document 01, "The timer"). Assumes nothing.
use Prim.Native.Nat.{◌*◌, ◌≤◌, ◌<◌}
use mathlib.Core.Path.{◌≡◌, refl}
use native.Mathlib.Omega.{arith}
use Rattle.rto.specs.declared.Timer.{Timer}
use Rattle.rto.specs.Timer.{expired}

module _ (t : Timer) where
  pub expiry_doubles : 2 * t.timeout ≤ 60000 → (expired t).timeout ≡ 2 * t.timeout
  expiry_doubles most = omega arith

  pub expiry_cut : 60000 < 2 * t.timeout → (expired t).timeout ≡ 60000
  expiry_cut more = omega arith

  pub expiry_leaves : ((expired t).srtt ≡ t.srtt) × (((expired t).rttvar ≡ t.rttvar) × ((expired t).sampled ≡ t.sampled))
  expiry_leaves = (refl, (refl, refl))
