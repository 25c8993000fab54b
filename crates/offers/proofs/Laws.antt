-- What document 01 says is in force, apart from the definitions: each extension by itself. Assumes nothing.
use mathlib.Core.Bool.{true, and-eq-true_iff}
use mathlib.Core.Logic.{◌↔◌, ◌⊎◌, inl, inr}
use mathlib.Core.Path.{◌≡◌, refl, ap, ◌∙◌}
use Prim.Native.Nat.{ℕ, ◌≤◌}
use native.Mathlib.Omega.{arith}
use Rattle.offers.specs.Offers.{in_force, shifts_in_force}
use Rattle.offers.specs.declared.Offers.{Offers}
use Rattle.std.specs.Prelude.{Option, Some, None}

peer_absent : (own : Option ℕ) → shifts_in_force own None ≡ record { receive = 0; send = 0 }
unfolding shifts_in_force
peer_absent None = refl
peer_absent (Some n) = refl

module _ (own peer : Offers) where
  -- scaling is in force if both offered: our shift for the receive window, the peer's for the send window. A peer's shift above 14 counts as 14.
  pub scaling_both : (n m : ℕ) → own.scale ≡ Some n → peer.scale ≡ Some m → let shifts = (in_force own peer).shifts in
      (shifts.receive ≡ n) × (m ≤ 14 → shifts.send ≡ m) × (14 ≤ m → shifts.send ≡ 14)
  unfolding in_force shifts_in_force
  scaling_both n m ours theirs =
      let both : (in_force own peer).shifts ≡ shifts_in_force (Some n) (Some m) =
      ap (λ s. shifts_in_force s peer.scale) ours ∙ ap (λ s. shifts_in_force (Some n) s) theirs in
      let send = ap (λ s. s.send) both in
      (ap (λ s. s.receive) both, λ small. send ∙ omega arith, λ large. send ∙ omega arith)

  -- else both shifts are 0
  pub scaling_none : (own.scale ≡ None) ⊎ (peer.scale ≡ None) → (in_force own peer).shifts ≡ record { receive = 0; send = 0 }
  unfolding in_force shifts_in_force
  scaling_none (inl absent) = ap (λ s. shifts_in_force s peer.scale) absent
  scaling_none (inr absent) = ap (λ s. shifts_in_force own.scale s) absent ∙ peer_absent own.scale

  -- timestamps and SACK are in force only if both offered
  pub timestamps_exactly : (in_force own peer).timestamps ≡ true ↔ (own.timestamps ≡ true) × (peer.timestamps ≡ true)
  unfolding in_force
  timestamps_exactly = and-eq-true_iff own.timestamps peer.timestamps

  pub sack_exactly : (in_force own peer).sack ≡ true ↔ (own.sack ≡ true) × (peer.sack ≡ true)
  unfolding in_force
  sack_exactly = and-eq-true_iff own.sack peer.sack
