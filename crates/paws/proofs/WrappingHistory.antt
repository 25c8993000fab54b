-- The premises hold of the worked case's history. Assumes nothing.
use mathlib.Core.List.Memᴰ
use mathlib.Core.List.{◌∷◌}
use mathlib.Core.Path.{◌≡◌, ap}
use Prim.Native.Nat.{ℕ, zero, suc, ◌+◌, ◌*◌, ◌^◌, ◌≤◌, ◌<◌}
use native.Mathlib.Decide.{dec_lt}
use native.Mathlib.Omega.{arith}
use Rattle.laws.specs.Lists.{Each, EachTwo}
use Rattle.laws.specs.Lists.Each.{none, more}
use Rattle.laws.specs.Lists.EachTwo.{no_two, more_two}
use Rattle.laws.proofs.Lists.{each_in}
use Rattle.paws.specs.History.{Has, In, Sent}
use Rattle.paws.specs.Premises.{Peer}
use Rattle.paws.specs.Wrapping.{history, piece, pieces_from, size, syn}

pub piece_in : (first n j : ℕ) → first ≤ j → j < first + n → In (pieces_from first n) (piece j)
unfolding pieces_from
piece_in first zero j least most = absurd (omega arith)
piece_in first (suc n) j least most = pick (dec_lt first j) (piece_in (suc first) n j)
  where
    pick : Dec (first < j)
        → (suc first ≤ j → j < suc first + n → In (pieces_from (suc first) n) (piece j)) → In (piece first ∷ pieces_from (suc first) n) (piece j)
    pick (yes h) later = Memᴰ.tail (later h (omega arith))
    pick (no h) later =
        let same : j ≡ first = omega arith in
        Memᴰ.head (ap piece same)

-- with the stamp 50 + j, the SYN's for j = 0, the numbers end at 5000 + j x size, and start at most that size before
record Bounds (p : Sent) : Type 0 where
  j : ℕ
  stamp_is : p.stamp ≡ 50 + j
  start_least : 5000 + j * size ≤ p.start + size
  end_most : p.start + p.len ≤ 5000 + j * size

pieces_bounded : (first n : ℕ) → Each Bounds (pieces_from first n)
unfolding pieces_from
pieces_bounded first zero = none
pieces_bounded first (suc n) =
    more {x = piece first} (record { j = suc first; stamp_is = omega arith; start_least = omega arith; end_most = omega arith }) (pieces_bounded (suc first) n)

all_bounded : Each Bounds history
unfolding history
all_bounded = more {x = syn} (record { j = 0; stamp_is = omega arith; start_least = omega arith; end_most = omega arith }) (pieces_bounded 0 (2 ^ 17))

near : (s p : Sent) (n : ℕ) → In history s → In history p → p.stamp ≤ s.stamp → Has p n → n < s.start + 2 ^ 30
near s p n there sent order has =
    let a = each_in all_bounded there in
    let b = each_in all_bounded sent in
    omega (arith, a.stamp_is, b.stamp_is, a.start_least, b.end_most)

later_stamps : (stamp first n : ℕ) → stamp ≤ 51 + first → Each (λ (q : Sent). stamp ≤ q.stamp) (pieces_from first n)
unfolding pieces_from
later_stamps stamp first zero least = none
later_stamps stamp first (suc n) least = more least (later_stamps stamp (suc first) n (omega arith))

rising : (first n : ℕ) → EachTwo (λ (p q : Sent). p.stamp ≤ q.stamp) (pieces_from first n)
unfolding pieces_from
rising first zero = no_two
rising first (suc n) = more_two (later_stamps (51 + first) (suc first) n (omega arith)) (rising (suc first) n)

pub wrapping_peer : Peer history
unfolding history
wrapping_peer = record { never_fall = more_two (later_stamps 50 0 (2 ^ 17) (omega arith)) (rising 0 (2 ^ 17)); starts_near = near }
