-- A receive side at its opening, and opening its window: what changes, when a new window is refused, and that both give a sound one. Assumes
-- nothing.
use mathlib.Core.Bool.{true, false}
use mathlib.Core.List.{[]}
use mathlib.Core.Logic.{◌⊎◌, inl, inr}
use mathlib.Core.Path.{◌≡◌, refl, sym, subst}
use Prim.Native.Nat.{ℕ, ◌*◌, ◌^◌, ◌≤◌, ◌<◌, min}
use native.Mathlib.Nat.{mul-le-mul_left}
use native.Mathlib.Omega.{arith}
use lib.Dec.{ltb}
use lib.Pow.{pow_pos}
use borrow.Author.Tests.{le-ltb, lt-ltb, ltb-false}
use Rattle.receive.specs.declared.Receive.{Receive}
use Rattle.laws.specs.Lists.Each.{none}
use Rattle.laws.specs.Lists.EachTwo.{no_two}
use Rattle.receive.specs.Ranges.{ranges_of}
use Rattle.receive.specs.Sound.{Sound}
use Rattle.receive.specs.Window.{Answer, is_window_refused, opened, window_opened, with_window}
use Rattle.laws.proofs.Choices.{either, neither, or_left, or_right}
use Rattle.laws.proofs.Lists.{each_map}
use Rattle.receive.proofs.Slots.{canonical_held, ranges_held}

-- whatever the window and the shift
pub opened_sound : (nxt window shift : ℕ) → nxt < 2 ^ 32 → Sound (opened nxt window shift)
unfolding opened
opened_sound nxt window shift below =
    record {
      nxt_below = below;
      shift_most = omega arith;
      window_most = omega (arith, mul-le-mul_left 65535 (pow_pos (min shift 14)));
      canonical = canonical_held _ (omega arith);
      ranges = rw ranges_held (record { few = omega arith; inside = none; apart = no_two });
    }

-- a window and a shift that E9 lets pass count as they are
pub record Opens (nxt window shift : ℕ) (r : Receive) : Type 0 where
  pub nxt_is : r.nxt.0 ≡ nxt
  pub window_is : r.window ≡ window
  pub shift_is : r.shift ≡ shift
  pub acked_is : r.acked.0 ≡ nxt
  pub none_held : ranges_of r.held ≡ []

pub opened_within : (nxt window shift : ℕ) → window ≤ 65535 → shift ≤ 14 → Opens nxt window shift (opened nxt window shift)
unfolding opened
opened_within nxt window shift small most =
    record { nxt_is = refl; window_is = omega arith; shift_is = omega arith; acked_is = refl; none_held = ranges_held [] }

-- and those above as 65,535 and as 14
pub opened_cut : (nxt window shift : ℕ) → (65535 ≤ window → (opened nxt window shift).window ≡ 65535) × (14 ≤ shift → (opened nxt window shift).shift ≡ 14)
unfolding opened
opened_cut nxt window shift = (λ large. omega arith, λ large. omega arith)

-- opening the window sets the receive window to the new one, and changes nothing else
pub record Widens (r : Receive) (window : ℕ) (t : Receive) : Type 0 where
  pub window_is : t.window ≡ window
  pub nxt_stays : t.nxt ≡ r.nxt
  pub shift_stays : t.shift ≡ r.shift
  pub acked_stays : t.acked ≡ r.acked
  pub held_stays : t.held ≡ r.held

module _ (r : Receive) (window : ℕ) where
  -- E13 exactly: a new window below the present one, or above 65,535 x 2^rcv shift
  not_e13 : r.window ≤ window → window ≤ 65535 * 2 ^ r.shift → is_window_refused r window ≡ false
  unfolding is_window_refused
  not_e13 low high = rw (le-ltb window r.window low) (le-ltb (65535 * 2 ^ r.shift) window high)

  e13 : (window < r.window) ⊎ (65535 * 2 ^ r.shift < window) → is_window_refused r window ≡ true
  unfolding is_window_refused
  e13 (inl small) = or_left (ltb window r.window) _ (lt-ltb window r.window small)
  e13 (inr large) = or_right (ltb window r.window) _ (lt-ltb (65535 * 2 ^ r.shift) window large)

  pub window_refusal_leaves : is_window_refused r window ≡ true → window_opened r window ≡ record { number = 13; receive = r }
  unfolding window_opened
  window_refusal_leaves refused = rw refused

  pub window_opens : is_window_refused r window ≡ false → window_opened r window ≡ record { number = 0; receive = with_window r window }
  unfolding window_opened
  window_opens given = rw given

  -- where it is refused, nothing changes
  pub window_refused : (window < r.window) ⊎ (65535 * 2 ^ r.shift < window) → window_opened r window ≡ record { number = 13; receive = r }
  window_refused outside = window_refusal_leaves (e13 outside)

  -- any other window is set, and nothing else changes
  pub window_set : r.window ≤ window → window ≤ 65535 * 2 ^ r.shift
      → ((window_opened r window).number ≡ 0) × Widens r window (window_opened r window).receive
  window_set low high =
      subst (λ (a : Answer). (a.number ≡ 0) × Widens r window a.receive) (sym (window_opens (not_e13 low high)))
      (refl, record { window_is = refl; nxt_stays = refl; shift_stays = refl; acked_stays = refl; held_stays = refl })

-- the ranges stay within a window that does not shrink
pub opened_window_sound : (r : Receive) (window : ℕ) → Sound r → Sound (window_opened r window).receive
unfolding window_opened is_window_refused
opened_window_sound r window s =
    either (λ (a : Answer). Sound a.receive) (is_window_refused r window) _ _ (λ _. s)
    (λ given.
    let tests = neither (ltb window r.window) (ltb (65535 * 2 ^ r.shift) window) given in
    let wider : r.window ≤ window = ltb-false _ _ tests.0 in
    record {
      nxt_below = s.nxt_below;
      shift_most = s.shift_most;
      window_most = ltb-false _ _ tests.1;
      canonical = s.canonical;
      ranges = record {
        few = s.ranges.few;
        inside = each_map (λ x i. record { above = i.above; filled = i.filled; within = omega (arith, i.within) }) s.ranges.inside;
        apart = s.ranges.apart;
      };
    })
