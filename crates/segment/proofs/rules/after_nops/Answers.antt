-- Each NOP that is passed is one step, and what follows it is left. Assumes nothing.
use mathlib.Core.List.{List}
use mathlib.Core.Path.{◌≡◌, sym, ap, subst, ◌∙◌}
use Prim.Native.Nat.{ℕ, zero, suc, ◌+◌, ◌-◌, ◌≤◌, ◌<◌}
use native.Mathlib.Omega.{arith}
use lib.ListN.{drop, get_or, length, take}
use borrow.Author.Tests.{eqb-false, eqb-true}
use Rattle.std.proofs.Common.{◌==◌, length-drop}
use Rattle.std.proofs.lemmas.List.{get_or-drop}
use Rattle.std.proofs.lemmas.List.Sums.{prefix_len-le-length, prefix_len_passes, prefix_len_stops}
use Rattle.segment.specs.Grammar.{padding_rule}
use Rattle.segment.specs.Internal.{AfterNops, NopsPassed, Outcome, nops_in}
use Rattle.segment.proofs.ByOctet.{to_the_end}
use Rattle.segment.proofs.Outcomes.{at_nop}
use Rattle.segment.proofs.rules.after_nops.Goals as goal

one_passed : (header : List ℕ) (from at : ℕ) → from ≤ at → at < length header → get_or header at 0 ≡ 1 → NopsPassed header from at
    → NopsPassed header from (at + 1)
one_passed header from at forward within nop passed = λ before k notes o.
    let next = padding_rule (at + 1) (drop (at + 1) header) in
    let same : k + (at + 1 - from) ≡ k + (at - from) + 1 = omega arith in
    passed before k notes
    (at_nop before (k + (at - from)) header at within notes nop (subst (λ (j : ℕ). Outcome before j next notes) same o))

module _ (header : List ℕ) (from : ℕ) (start : from ≤ length header) where
  abbrev left : List ℕ
  left = drop from header

  abbrev nops : ℕ
  nops = nops_in left

  within : from + nops ≤ length header
  within = omega (arith, prefix_len-le-length (λ octet. octet == 1) left, length-drop from header)

  is_nop : (n : ℕ) → n < nops → get_or header (from + n) 0 ≡ 1
  is_nop n h = sym (get_or-drop from header n 0) ∙ eqb-true _ 1 (prefix_len_passes (λ octet. octet == 1) left n 0 h)

  no_nop : from + nops < length header → get_or header (from + nops) 0 ≡ 1 → ⊥
  no_nop h e =
      eqb-false _ 1 (prefix_len_stops (λ octet. octet == 1) left 0 (omega (arith, length-drop from header))) (get_or-drop from header nops 0 ∙ e)

  passed : (n : ℕ) → n ≤ nops → NopsPassed header from (from + n)
  passed zero h = λ before k notes o.
      subst (λ (j : ℕ). Outcome before j (padding_rule from left) notes) (omega arith)
      (subst (λ (i : ℕ). Outcome before (k + (from + 0 - from)) (padding_rule i (drop i header)) notes) (omega arith) o)
  passed (suc n) h =
      subst (NopsPassed header from) (omega arith)
      (one_passed header from (from + n) (omega arith) (omega (arith, within)) (is_nop n (omega arith)) (passed n (omega arith)))

  -- the slice from a place on is what is left there
  by_count : (n : ℕ) → n ≡ nops_in (take (length header - from) left) → AfterNops header from (from + n)
  by_count n e =
      subst (λ (k : ℕ). AfterNops header from (from + k)) (sym (e ∙ ap nops_in (to_the_end from header)))
      (record { forward = omega arith; within = within; no_nop = no_nop; passed = passed nops (omega arith) })

pub returns : goal.returns
returns c = by_count c.args.header.now c.args.from c.requires _ c.nops.ensures.value
