-- Runs of octets that a cursor writes one after the other, and numbers as such runs. Assumes nothing.
use mathlib.Core.List.{List, [], ◌∷◌, ◌++◌, append_assoc, append-nil}
use mathlib.Core.Path.{◌≡◌, refl, sym, ap, subst, ◌∙◌}
use Prim.Native.Nat.{ℕ, ◌+◌, ◌/◌, ◌%◌, ◌≤◌, ◌<◌}
use native.Mathlib.Numerals.{add-one}
use native.Mathlib.Omega.{arith}
use lib.ListN.{drop, get_or, length, length-append, take}
use lib.Seq.{drop-cons, drop-drop, length-sets, sets, sets-eq, take-suc}
use Rattle.std.specs.Int.{bytes_high_first}
use Rattle.serial.specs.declared.Range.{Range}
use Rattle.octets.specs.Octets.{big_endian}
use Rattle.segment.specs.declared.Options.{Options}
use Rattle.octets.proofs.Stores.{sets_append}
use Rattle.writer.specs.Cursor.{HasRoom, Writes}
use Rattle.writer.specs.Writing.{blocks_written, fitting, mss_written, options_written, sack_written, scale_written, timestamps_written}
use Rattle.writer.specs.declared.cursor.Cursor.{Cursor}
use Rattle.writer.proofs.OptionOctets.{blocks_split, in_order}

pub writes_none : (a : Cursor) → Writes a a []
writes_none a = record { same_reference = refl; octets = refl; next = omega arith }

module _ {a b : Cursor} {xs : List ℕ} (first : Writes a b xs) where
  -- one run after another
  pub writes_then : {c : Cursor} {ys : List ℕ} → Writes b c ys → Writes a c (xs ++ ys)
  writes_then {c} {ys} second = record {
    same_reference = second.same_reference ∙ first.same_reference;
    octets = second.octets ∙ (λ i. sets (first.octets i) (first.next i) ys) ∙ sets_append a.octets.now a.at xs ys;
    next = omega (arith, first.next, second.next, length-append xs ys);
  }

  -- room for both is room for the second after the first
  pub room_then : (ys : List ℕ) → HasRoom a (xs ++ ys) → HasRoom b ys
  room_then ys both = record {
    room = omega (arith, both.room, first.next, length-append xs ys, ap length first.octets, length-sets a.octets.now a.at xs);
  }

pub room_first : {a : Cursor} (xs ys : List ℕ) → HasRoom a (xs ++ ys) → HasRoom a xs
room_first xs ys both = record { room = omega (arith, both.room, length-append xs ys) }

-- room for the options is room for each of them in turn
pub options_room : {a : Cursor} (o : Options) (bs : List Range) → bs ≡ fitting o → a.at + length (options_written o) ≤ length a.octets.now
    → HasRoom a (mss_written o.mss ++ (timestamps_written o.permitted o.timestamps ++ (scale_written o.scale ++ sack_written bs)))
options_room {a} o bs are room =
    rw are (subst (HasRoom a) (in_order o) (record { room = room }))

-- what `copy_from_slice` leaves of a part, in the whole
pub run_stored : (xs : List ℕ) (a k : ℕ) (part run : List ℕ) → part ≡ run → k ≡ length run → a + length run ≤ length xs
    → take a xs ++ (part ++ drop k (drop a xs)) ≡ sets xs a run
run_stored xs a k part run same size room =
    ap (λ (l : List ℕ). take a xs ++ (l ++ drop k (drop a xs))) same
    ∙ sym (append_assoc (take a xs) run (drop k (drop a xs)))
    ∙ ap (λ (l : List ℕ). (take a xs ++ run) ++ l) (drop-drop k a xs ∙ ap (λ (n : ℕ). drop (a + n) xs) size)
    ∙ sym (sets-eq run xs a room)

-- the octets of the blocks, and those of the blocks that are left, at a further block
module _ (bs : List Range) (i : ℕ) (d : Range) (there : i < length bs) where
  abbrev pair : List ℕ
  pair = big_endian 4 (get_or bs i d).left.0 ++ big_endian 4 (get_or bs i d).right.0

  pub blocks_more : blocks_written (take (i + 1) bs) ≡ blocks_written (take i bs) ++ pair
  unfolding blocks_written
  blocks_more =
      ap (λ (n : ℕ). blocks_written (take n bs)) (add-one i) ∙ ap blocks_written (take-suc bs i d there) ∙ blocks_split (take i bs) (get_or bs i d) []
      ∙ ap (λ (l : List ℕ). blocks_written (take i bs) ++ (big_endian 4 (get_or bs i d).left.0 ++ l)) (append-nil _)

  pub blocks_left : blocks_written (drop i bs) ≡ pair ++ blocks_written (drop (i + 1) bs)
  unfolding blocks_written
  blocks_left = ap blocks_written (drop-cons bs i d there) ∙ ap (λ (n : ℕ). blocks_written (get_or bs i d ∷ drop n bs)) (sym (add-one i))
      ∙ sym (append_assoc (big_endian 4 (get_or bs i d).left.0) (big_endian 4 (get_or bs i d).right.0) (blocks_written (drop (i + 1) bs)))

-- std's octets of a number, highest first, are ours
pub octets_of_u16 : (n : ℕ) → n < 65536 → bytes_high_first 2 n ≡ big_endian 2 n
unfolding big_endian
octets_of_u16 n below =
    let a : n / 256 % 256 ≡ n / 256 = omega arith in
    let b : n % 256 ≡ n % 256 / 1 = omega arith in
    λ i. a i ∷ b i ∷ []

pub octets_of_u32 : (n : ℕ) → n < 4294967296 → bytes_high_first 4 n ≡ big_endian 4 n
unfolding big_endian
octets_of_u32 n below =
    let a : n / 16777216 % 256 ≡ n / 16777216 = omega arith in
    let b : n / 65536 % 256 ≡ n % 16777216 / 65536 = omega arith in
    let c : n / 256 % 256 ≡ n % 16777216 % 65536 / 256 = omega arith in
    let d : n % 256 ≡ n % 16777216 % 65536 % 256 / 1 = omega arith in
    λ i. a i ∷ b i ∷ c i ∷ d i ∷ []
