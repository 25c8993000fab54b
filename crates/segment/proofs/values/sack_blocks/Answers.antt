-- The length octet says how many blocks there are. Assumes nothing.
use mathlib.Core.List.{List, [], ◌∷◌, ◌++◌}
use mathlib.Core.Path.{◌≡◌, sym, ap, ◌∙◌}
use Prim.Native.Nat.{ℕ, suc, ◌+◌, ◌-◌, ◌/◌, ◌≤◌}
use native.Mathlib.Numerals.{add-one}
use native.Mathlib.Omega.{arith}
use lib.ListN.{get_or, length, take}
use Rattle.std.specs.Prelude.{Some}
use Rattle.segment.specs.Internal.{StandsIf, place_of}
use Rattle.segment.specs.Options.{Found, blocks_from, blocks_of}
use Rattle.segment.proofs.Blocks.{blocks_there, one_more_block, take_again}
use Rattle.segment.proofs.Standing.{one_there}
use Rattle.segment.proofs.values.sack_blocks.Goals as goal

pub loop-i-init : goal.loop-i-init
unfolding blocks_from
loop-i-init c = record { within = omega arith; read = c.none-blocks.ensures }

pub loop-i-preserved : goal.loop-i-preserved
loop-i-preserved c =
    let s = c.args.segment.now in
    let at = c.from-at.result + 2 in
    let l = c.loop-i in
    record {
      within = omega arith;
      read =
          c.push.ensures
          ∙ (λ j. take 4 (l.invariant.read j ++ (c.block.ensures j ∷ [])))
          ∙ take_again 4 (blocks_from l.i s at) _
          ∙ ap (take 4) (sym (one_more_block l.i s at))
          ∙ ap (λ (n : ℕ). take 4 (blocks_from n s at)) (sym (add-one l.i));
    }

-- of more than four blocks the first four are read
four_read : (n : ℕ) (s : List ℕ) (at : ℕ) → 4 ≤ n → take 4 (blocks_from 4 s at) ≡ take 4 (blocks_from n s at)
unfolding blocks_from
four_read n s at more =
    let past : suc (suc (suc (suc (n - 4)))) ≡ n = omega arith in
    ap (λ (m : ℕ). take 4 (blocks_from m s at)) past

-- what an option says whose length octet is n
said : (s : List ℕ) (place n : ℕ) (f : Found) → n ≡ get_or s (place + 1) 0 → Some place ≡ place_of f → StandsIf s 5 10 f
    → take 4 (blocks_from ((n - 2) / 8) s (place + 2)) ≡ blocks_of f
unfolding blocks_from
said s place n f counted e stands =
    let there = one_there place f e in
    let octets : List ℕ = there.0 in
    let st = stands _ _ there.1 in
    let size : n ≡ length octets = counted ∙ sym (st.inside.octets_there 1 (omega (arith, st.least))) ∙ st.inside.length_counted in
    let all : (n - 2) / 8 ≡ suc ((length octets - 10) / 8) = omega (arith, size, st.least) in
    ap (λ (m : ℕ). take 4 (blocks_from m s (place + 2))) all
    ∙ ap (take 4) (blocks_there st (suc ((length octets - 10) / 8)) 2 (omega (arith, st.least)))
    ∙ sym (ap blocks_of there.1)

pub returns-then-count-i : goal.returns-then-count-i
returns-then-count-i c = λ f e stands.
    let s = c.args.segment.now in
    let place = c.from-at.result in
    let all : c.loop-i.i ≡ (c.read_u8.result - 2) / 8 = omega (arith, c.saturating_sub-count.ensures) in
    c.loop-i.invariant.read
    ∙ ap (λ (n : ℕ). take 4 (blocks_from n s (place + 2))) all
    ∙ said s place _ f c.read_u8.ensures (ap Some c.from-at.ensures ∙ sym c.in-Some.is ∙ e) stands

pub returns : goal.returns
returns c = λ f e stands.
    let s = c.args.segment.now in
    let place = c.from-at.result in
    let four : c.loop-i.i ≡ 4 = omega arith in
    c.loop-i.invariant.read
    ∙ ap (λ (n : ℕ). take 4 (blocks_from n s (place + 2))) four
    ∙ four_read ((c.read_u8.result - 2) / 8) s (place + 2) (omega (arith, c.saturating_sub-count.ensures))
    ∙ said s place _ f c.read_u8.ensures (ap Some c.from-at.ensures ∙ sym c.in-Some.is ∙ e) stands
