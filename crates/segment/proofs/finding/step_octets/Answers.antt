-- Each test meets one way in which the rules go on. Assumes nothing.
use mathlib.Core.Bool.{true, false}
use mathlib.Core.List.{List}
use mathlib.Core.Path.{◌≡◌, refl, ap, ◌∙◌}
use Prim.Native.Nat.{ℕ, ◌+◌, ◌≤◌, ◌<◌}
use native.Mathlib.Omega.{arith}
use lib.ListN.{drop, get_or, length}
use Rattle.std.specs.Prelude.{Option, Some, None}
use Rattle.segment.specs.Grammar.{is_broken}
use Rattle.segment.specs.Internal.{Reaches}
use Rattle.segment.specs.Options.{option_in, stands_in}
use Rattle.segment.specs.Reading.{matching}
use Rattle.segment.proofs.ByOctet.{octets_least, octets_most, broken_there, left, length_if, padding_option, whole_there}
use Rattle.segment.proofs.Listed.{broken_found, end_found, nop_found, past_found, whole_found}
use Rattle.segment.proofs.Membership.{stands_failed}
use Rattle.segment.proofs.finding.step_octets.Goals as goal
use Rattle.segment.proofs.finding.step_octets.Goals.{then-header-at-via-then-header-at, then-header-at-via-else-header-at+then-header-at-eq-END}

module _ (header : List ℕ) (at : ℕ) where
  past : length header ≤ at → Reaches header at None
  past h = record { least = tt; within = tt; finds = λ kinds. past_found (matching kinds) header at h }

  module _ (h : at < length header) where
    at_end : get_or header at 0 ≡ 0 → Reaches header at None
    at_end e = record { least = tt; within = tt; finds = λ kinds. end_found (matching kinds) header at h e }

    at_nop : get_or header at 0 ≡ 1 → Reaches header at (Some 1)
    at_nop e = record {
      least = omega arith;
      within = omega arith;
      finds = λ kinds.
          let unlisted : stands_in 1 (matching kinds) ≡ false = stands_failed _ 1 kinds refl in
          simp (e, unlisted) (nop_found (matching kinds) header at h e);
    }

    module _ (not_end : get_or header at 0 ≡ 0 → ⊥) (not_nop : get_or header at 0 ≡ 1 → ⊥) where
      at_broken : is_broken (drop at header) ≡ true → Reaches header at None
      at_broken b = record {
        least = tt;
        within = tt;
        finds = λ kinds. ap (option_in (matching kinds)) (padding_option header at h not_end not_nop) ∙ broken_found (matching kinds) header at b;
      }

      at_option : is_broken (drop at header) ≡ false → Reaches header at (Some (get_or header (at + 1) 0))
      at_option b = record {
        least = omega (arith, octets_least header at b);
        within = octets_most header at b;
        finds = λ kinds. ap (option_in (matching kinds)) (padding_option header at h not_end not_nop) ∙ whole_found (matching kinds) header at b;
      }

      by_length : (answer : Option ℕ) → answer ≡ length_if (is_broken (left header at)) (get_or (left header at) 1 0) → Reaches header at answer
      by_length None e = at_broken (broken_there header at e refl)
      by_length (Some n) e =
          let there = whole_there header at e refl in
          rw there.1 (at_option there.0)

pub returns-then-header-at : goal.returns-then-header-at
returns-then-header-at c =
    let a = c.args in
    elim c.then-header-at.branch [
      | then-header-at-via-then-header-at w ↦ past a.header.now a.at w.if-header-at.true
      | then-header-at-via-else-header-at+then-header-at-eq-END w ↦ at_end a.header.now a.at w.if-header-at.false (omega (arith, w.if-header-at-eq-END.true))
    ]

pub returns-then-header-at-eq-NOP : goal.returns-then-header-at-eq-NOP
returns-then-header-at-eq-NOP c = at_nop c.args.header.now c.args.at c.if-header-at.false (omega (arith, c.if-header-at-eq-NOP.true))

pub returns : goal.returns
returns c =
    let a = c.args in
    by_length a.header.now a.at c.if-header-at.false (λ e. omega (arith, e, c.if-header-at-eq-END.false)) (λ e. omega (arith, e, c.if-header-at-eq-NOP.false))
    _ c.whole_option.ensures
