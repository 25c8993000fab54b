-- What the writer answers to a buffer. Assumes nothing.
use mathlib.Core.Bool.{Bool, true, false, cond}
use mathlib.Core.List.{List}
use mathlib.Core.Logic.{◌↔◌}
use mathlib.Core.Path.{◌≡◌, refl, ap}
use Prim.Native.Nat.{ℕ, ◌≤◌, ◌<◌}
use native.Mathlib.Omega.{arith}
use lib.Dec.{ltb}
use lib.ListN.{length}
use borrow.Author.Tests.{le-ltb, lt-ltb, ltb-false, ltb-true}
use Rattle.octets.specs.Octets.{stored}
use Rattle.segment.specs.declared.Options.{Options}
use Rattle.writer.specs.Writing.{Answer, writing, written}
use Rattle.writer.specs.declared.Header.{Header}

module _ (h : Header) (o : Options) (buffer : List ℕ) where
  abbrev octets : List ℕ
  octets = written h o

  abbrev short : Answer
  short = record { number = 7; length = 0; buffer = buffer }

  abbrev wrote : Answer
  wrote = record { number = 0; length = length octets; buffer = stored octets buffer }

  pub writes_if : length (written h o) ≤ length buffer
      → writing h o buffer ≡ record { number = 0; length = length (written h o); buffer = stored (written h o) buffer }
  unfolding writing
  writes_if room = ap (λ t. cond t short wrote) (le-ltb (length buffer) (length octets) room)

  pub refuses_if : length buffer < length (written h o) → writing h o buffer ≡ record { number = 7; length = 0; buffer = buffer }
  unfolding writing
  refuses_if less = ap (λ t. cond t short wrote) (lt-ltb (length buffer) (length octets) less)

  by_cases : (P : Answer → Type 0) → (length buffer < length octets → P short) → (length octets ≤ length buffer → P wrote) → P (writing h o buffer)
  by_cases P refused written = go (ltb (length buffer) (length octets)) refl
    where
      go : (t : Bool) → ltb (length buffer) (length octets) ≡ t → P (writing h o buffer)
      go true e = rw (refuses_if (ltb-true _ _ e)) (refused (ltb-true _ _ e))
      go false e = rw (writes_if (ltb-false _ _ e)) (written (ltb-false _ _ e))

  -- E7 exactly if the buffer is shorter, and else no refusal
  pub too_short_exactly : (writing h o buffer).number ≡ 7 ↔ length buffer < length (written h o)
  too_short_exactly =
      by_cases (λ x. x.number ≡ 7 ↔ length buffer < length octets) (λ less. (λ _. less, λ _. refl))
      (λ room. (λ e. absurd (omega arith), λ l. absurd (omega arith)))

  pub written_exactly : (writing h o buffer).number ≡ 0 ↔ length (written h o) ≤ length buffer
  written_exactly =
      by_cases (λ x. x.number ≡ 0 ↔ length octets ≤ length buffer) (λ less. (λ e. absurd (omega arith), λ r. absurd (omega arith)))
      (λ room. (λ _. room, λ _. refl))
