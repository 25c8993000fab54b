-- The option that is found in the header from a place on, by the octets that the code tests. Assumes nothing.
use mathlib.Core.Bool.{true, false, cond}
use mathlib.Core.List.{List}
use mathlib.Core.Path.{◌≡◌, ap, ◌∙◌}
use Prim.Native.Nat.{ℕ, ◌+◌, ◌≤◌, ◌<◌}
use native.Mathlib.Omega.{arith}
use lib.ListN.{drop, get_or, length, take}
use denote.Ref.{Bor}
use Rattle.segment.specs.Grammar.{is_broken, option_rule, padding_rule}
use Rattle.segment.specs.Options.{Found, found, nothing, option_in, stands_in}
use Rattle.segment.specs.Part.{IsPart}
use Rattle.segment.proofs.ByOctet.{kind_kept, option_broken, option_whole, padding_end, padding_nop, padding_past}

module _ (kinds header : List ℕ) (at : ℕ) where
  -- by the padding rule
  pub past_found : length header ≤ at → option_in kinds (padding_rule at (drop at header)) ≡ nothing
  unfolding option_in
  past_found h = ap (option_in kinds) (padding_past header at h)

  pub end_found : at < length header → get_or header at 0 ≡ 0 → option_in kinds (padding_rule at (drop at header)) ≡ nothing
  unfolding option_in
  end_found h e = ap (option_in kinds) (padding_end header at h e)

  pub nop_found : at < length header → get_or header at 0 ≡ 1
      → option_in kinds (padding_rule at (drop at header)) ≡ option_in kinds (padding_rule (at + 1) (drop (at + 1) header))
  unfolding option_in
  nop_found h e = ap (option_in kinds) (padding_nop header at h e)

  -- by the option rule
  abbrev n : ℕ
  n = get_or header (at + 1) 0

  pub broken_found : is_broken (drop at header) ≡ true → option_in kinds (option_rule at (drop at header)) ≡ nothing
  unfolding option_in
  broken_found e = ap (option_in kinds) (option_broken header at e)

  pub whole_found : is_broken (drop at header) ≡ false → option_in kinds (option_rule at (drop at header))
      ≡ cond (stands_in (get_or header at 0) kinds) (found at (take n (drop at header))) (option_in kinds (padding_rule (at + n) (drop (at + n) header)))
  unfolding option_in
  whole_found e = ap (option_in kinds) (option_whole header at e) ∙ simp (kind_kept header at e)

-- a part of what starts where the slice does is a part of the slice
pub part_of_start : (r : Bor (List ℕ)) (from : ℕ × ℕ) (f : Found) → IsPart r (from.0, 0 + from.1) f → IsPart r from f
part_of_start r from f h = (h.0, h.1, omega (arith, h.2))
