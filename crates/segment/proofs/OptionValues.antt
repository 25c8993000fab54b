-- What each known option of a segment that is read says: "2 MSS length 4; 3 window scale length 3; 4 SACK-permitted length 2; 5 SACK length
-- 10, 18, 26 or 34; 8 timestamps length 10 (TSval, TSecr)", all big-endian; and what is said where there is none. Assumes nothing.
use mathlib.Core.Bool.{true, false}
use mathlib.Core.List.Memᴰ
use mathlib.Core.List.{List, [], ◌∷◌, ◌++◌, Memᴰ}
use mathlib.Core.Path.{◌≡◌, refl, sym, ap, ◌∙◌}
use Prim.Native.Nat.{ℕ, ◌+◌, ◌*◌, ◌≤◌}
use native.Mathlib.Omega.{arith}
use lib.ListN.{get_or, length}
use Rattle.std.specs.Prelude.{Some, None}
use Rattle.serial.specs.Serial.{range}
use Rattle.serial.specs.declared.Range.{Range}
use Rattle.octets.specs.Octets.{big_endian, number_at}
use Rattle.octets.proofs.ReadBack.{number_at_big_endian}
use Rattle.segment.specs.Grammar.{Step, whole}
use Rattle.segment.specs.Options.{Found, blocks_from, blocks_of, fault_at, found, is_found, mss_of, nothing, option_of, options_of, scale_of, timestamps_of}
use Rattle.segment.specs.Reading.{Answer, read_as, reading, segment_of, steps_of}
use Rattle.segment.specs.SackBlocks.{held, padded}
use Rattle.segment.specs.declared.Options.{Options}
use Rattle.segment.specs.declared.Segment.{Segment}
use Rattle.segment.proofs.Faults.{Among, RightLength, judged_only, mss, window_scale, sack_permitted, one_block, two_blocks, three_blocks, four_blocks, timestamps, second_time}
use Rattle.segment.proofs.FoundOption.{first_option, nothing_if}
use Rattle.segment.proofs.HeldBlocks.{held_found}
use Rattle.segment.proofs.Numbers.{faultless}
use Rattle.segment.proofs.Readable.{fields_are}

-- a step stands somewhere
split_at : (step : Step) (steps : List Step) → Memᴰ step steps → (before : List Step) × (after : List Step) × (steps ≡ before ++ (step ∷ after))
split_at step steps (Memᴰ.head {x} {xs} e) = ([], xs, ap (λ (y : Step). y ∷ xs) (sym e))
split_at step steps (Memᴰ.tail {x} {xs} m) =
    let rest = split_at step xs m in
    (x ∷ rest.0, rest.1, ap (λ (l : List Step). x ∷ l) rest.2)

-- the octets of blocks: left edge, then right edge
abbrev pub edges_of : List Range → List ℕ
edges_of [] = []
edges_of (r ∷ rs) = big_endian 4 r.left.0 ++ (big_endian 4 r.right.0 ++ edges_of rs)

block_back : (r : Range) → range (number_at 4 (big_endian 4 r.left.0 ++ []) 0) (number_at 4 (big_endian 4 r.right.0 ++ []) 0) ≡ r
block_back r i = record { left = record { 0 = number_at_big_endian 3 r.left.0 [] i }; right = record { 0 = number_at_big_endian 3 r.right.0 [] i } }

module _ (s : List ℕ) (w : Segment) (e : reading s ≡ read_as w) where
  options_are : w.options ≡ options_of (steps_of s)
  unfolding segment_of
  options_are = ap (λ (x : Segment). x.options) (fields_are s w e)

  -- the option of its kind is that one
  the_option : (at : ℕ) (octets : List ℕ) → RightLength (get_or octets 0 0) (length octets) → Memᴰ (whole at octets) (steps_of s)
      → option_of (get_or octets 0 0) (steps_of s) ≡ found at octets
  the_option at octets right m =
      let there = split_at (whole at octets) (steps_of s) m in
      let none : fault_at there.0 (whole at octets) ≡ 0 =
      judged_only there.0 (whole at octets) 0 (faultless s (ap (λ (a : Answer Segment). a.number) e) there.0 (whole at octets) there.1 there.2) in
      first_option (get_or octets 0 0 ∷ []) (steps_of s) at octets (record {
        before = there.0;
        after = there.1;
        stands = there.2;
        none_before = λ a o before listed.
            let second : fault_at there.0 (whole at octets) ≡ 6 =
            judged_only there.0 (whole at octets) 6 (second_time at octets right (a, o, before, Memᴰ.eq_of_singleton listed)) in
            omega arith;
        listed = Memᴰ.head refl;
      })

  pub mss_value : (at n : ℕ) → Memᴰ (whole at (2 ∷ 4 ∷ big_endian 2 n)) (steps_of s) → w.options.mss ≡ Some n
  unfolding options_of big_endian number_at
  mss_value at n m =
      ap (λ (o : Options). o.mss) options_are
      ∙ ap mss_of (the_option at (2 ∷ 4 ∷ big_endian 2 n) mss m)
      ∙ ap Some (number_at_big_endian 1 n [])

  pub scale_value : (at shift : ℕ) → Memᴰ (whole at (3 ∷ 3 ∷ shift ∷ [])) (steps_of s) → w.options.scale ≡ Some shift
  unfolding options_of
  scale_value at shift m =
      ap (λ (o : Options). o.scale) options_are ∙ ap scale_of (the_option at (3 ∷ 3 ∷ shift ∷ []) window_scale m)

  pub permitted_value : (at : ℕ) → Memᴰ (whole at (4 ∷ 2 ∷ [])) (steps_of s) → w.options.permitted ≡ true
  unfolding options_of
  permitted_value at m =
      ap (λ (o : Options). o.permitted) options_are ∙ ap is_found (the_option at (4 ∷ 2 ∷ []) sack_permitted m)

  pub timestamps_value : (at value echoed : ℕ) → Memᴰ (whole at (8 ∷ 10 ∷ (big_endian 4 value ++ big_endian 4 echoed))) (steps_of s)
      → w.options.timestamps ≡ Some (record { value = record { 0 = value }; echoed = record { 0 = echoed } })
  unfolding options_of big_endian number_at
  timestamps_value at value echoed m =
      ap (λ (o : Options). o.timestamps) options_are
      ∙ ap timestamps_of (the_option at (8 ∷ 10 ∷ (big_endian 4 value ++ big_endian 4 echoed)) timestamps m)
      ∙ (λ i. Some (record { value = record { 0 = number_at_big_endian 3 value [] i }; echoed = record { 0 = number_at_big_endian 3 echoed [] i } }))

  -- one to four blocks, in their order
  pub blocks_value : (at : ℕ) (r : Range) (rs : List Range) → length rs ≤ 3
      → Memᴰ (whole at (5 ∷ (8 * length (r ∷ rs) + 2) ∷ edges_of (r ∷ rs))) (steps_of s)
      → held w.options.blocks ≡ r ∷ rs
  unfolding options_of big_endian number_at blocks_from
  blocks_value at a rs few m = go rs few m
    where
      said : (octets : List ℕ) → get_or octets 0 0 ≡ 5 → RightLength 5 (length octets) → Memᴰ (whole at octets) (steps_of s)
          → held w.options.blocks ≡ blocks_of (found at octets)
      said octets five right m =
          ap (λ (o : Options). held o.blocks) options_are
          ∙ ap (λ (f : Found). held (padded (blocks_of f))) (rw five at (the_option at octets (rw five right) m))
          ∙ held_found (found at octets)

      go : (rs : List Range) → length rs ≤ 3 → Memᴰ (whole at (5 ∷ (8 * length (a ∷ rs) + 2) ∷ edges_of (a ∷ rs))) (steps_of s)
          → held w.options.blocks ≡ a ∷ rs
      go [] few m = said _ refl one_block m ∙ (λ i. block_back a i ∷ [])
      go (b ∷ []) few m = said _ refl two_blocks m ∙ (λ i. block_back a i ∷ block_back b i ∷ [])
      go (b ∷ c ∷ []) few m = said _ refl three_blocks m ∙ (λ i. block_back a i ∷ block_back b i ∷ block_back c i ∷ [])
      go (b ∷ c ∷ d ∷ []) few m = said _ refl four_blocks m ∙ (λ i. block_back a i ∷ block_back b i ∷ block_back c i ∷ block_back d i ∷ [])
      go (b ∷ c ∷ d ∷ x ∷ more) few m = absurd (omega arith)

  -- where no option of the kind stands
  is_none : (kind : ℕ) → (Among kind (steps_of s) → ⊥) → option_of kind (steps_of s) ≡ nothing
  is_none kind none = nothing_if (kind ∷ []) (steps_of s) (λ at octets m listed. none (at, octets, m, Memᴰ.eq_of_singleton listed))

  pub no_mss : (Among 2 (steps_of s) → ⊥) → w.options.mss ≡ None
  unfolding options_of
  no_mss none = ap (λ (o : Options). o.mss) options_are ∙ ap mss_of (is_none 2 none)

  pub no_scale : (Among 3 (steps_of s) → ⊥) → w.options.scale ≡ None
  unfolding options_of
  no_scale none = ap (λ (o : Options). o.scale) options_are ∙ ap scale_of (is_none 3 none)

  pub not_permitted : (Among 4 (steps_of s) → ⊥) → w.options.permitted ≡ false
  unfolding options_of
  not_permitted none = ap (λ (o : Options). o.permitted) options_are ∙ ap is_found (is_none 4 none)

  pub no_blocks : (Among 5 (steps_of s) → ⊥) → held w.options.blocks ≡ []
  unfolding options_of
  no_blocks none = ap (λ (o : Options). held o.blocks) options_are ∙ ap (λ (f : Found). held (padded (blocks_of f))) (is_none 5 none)

  pub no_timestamps : (Among 8 (steps_of s) → ⊥) → w.options.timestamps ≡ None
  unfolding options_of
  no_timestamps none = ap (λ (o : Options). o.timestamps) options_are ∙ ap timestamps_of (is_none 8 none)
