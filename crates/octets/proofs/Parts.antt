-- The octets of a number: those that lie within and octets 0 for the others, and std's conversions of them, one law each over the width.
-- Assumes nothing.
use Rattle.std.proofs.Common.{◌≡◌, ℕ, zero, suc, ◌+◌, ◌*◌, ◌/◌, ◌%◌, ◌-◌, ◌^◌, ◌<◌, ◌≤◌, List, [], ◌∷◌, ◌++◌, refl, sym, ap, ◌∙◌, arith, get_or, length, take, drop, length-drop}
use Rattle.std.proofs.Math.ListN.{drop_of_length-le, replicate}
use native.Mathlib.Numerals.{unary_clauses}
use Rattle.std.proofs.Math.Nat.{mod-eq_of_lt, mod-lt}
use Rattle.std.proofs.Math.Arith.{mod-mul}
use Rattle.std.proofs.lemmas.Nat.{div-mul-add, mod-mul-add}
use Rattle.std.specs.Int.{byte_worth, bytes_high_first, sum_through}
use Rattle.std.proofs.Math.Seq.{sets}
use Rattle.octets.specs.Octets.{big_endian, number_at, octets_at}

octets_after : (w at x : ℕ) (l : List ℕ) → octets_at w (x ∷ l) (suc at) ≡ octets_at w l at
unfolding octets_at
octets_after zero at x l = refl
octets_after (suc w) at x l = ap (λ (k : List ℕ). get_or l at 0 ∷ k) (octets_after w (suc at) x l)

octets_of_none : (w at : ℕ) → octets_at w [] at ≡ replicate w 0
unfolding octets_at
octets_of_none zero at = refl
octets_of_none (suc w) at = ap (λ (k : List ℕ). 0 ∷ k) (octets_of_none w (suc at))

octets_from : (w at : ℕ) (l : List ℕ) → octets_at w l at ≡ octets_at w (drop at l) 0
octets_from w zero l = refl
octets_from w (suc at) [] = octets_of_none w (suc at) ∙ sym (octets_of_none w 0)
octets_from w (suc at) (x ∷ l) = octets_after w at x l ∙ octets_from w at l

whole : (w : ℕ) (l : List ℕ) → w ≤ length l → octets_at w l 0 ≡ take w l
unfolding octets_at
whole zero l room = refl
whole (suc w) [] room = absurd (omega arith)
whole (suc w) (x ∷ l) room = ap (λ (k : List ℕ). x ∷ k) (octets_after w 0 x l ∙ whole w l (omega arith))

cut : (w : ℕ) (l : List ℕ) → length l < w → octets_at w l 0 ≡ l ++ drop (length l) (replicate w 0)
unfolding octets_at
cut w [] short = octets_of_none w 0
cut zero (x ∷ l) short = absurd (omega arith)
cut (suc w) (x ∷ l) short = ap (λ (k : List ℕ). x ∷ k) (octets_after w 0 x l ∙ cut w l (omega arith))

module _ (w at : ℕ) (l : List ℕ) where
  pub octets_whole : at + w ≤ length l → take w (drop at l) ≡ octets_at w l at
  octets_whole room = sym (octets_from w at l ∙ whole w (drop at l) (omega (arith, length-drop at l)))

  pub octets_cut : at < length l → length l < at + w → drop at l ++ drop (length l - at) (replicate w 0) ≡ octets_at w l at
  octets_cut some short =
      ap (λ (n : ℕ). drop at l ++ drop n (replicate w 0)) (sym (length-drop at l))
      ∙ sym (octets_from w at l ∙ cut w (drop at l) (omega (arith, length-drop at l)))

  pub octets_past : length l ≤ at → replicate w 0 ≡ octets_at w l at
  octets_past past = sym (octets_from w at l ∙ ap (λ (k : List ℕ). octets_at w k 0) (drop_of_length-le l past) ∙ octets_of_none w 0)

first_apart : (f : ℕ → ℕ) (k : ℕ) → sum_through f (suc k) ≡ f 0 + sum_through (λ i. f (suc i)) k
first_apart f zero = refl
first_apart f (suc k) = omega (arith, first_apart f k)

-- std's `from_be_bytes`
number_of_octets : (w : ℕ) (octets : List ℕ) (at : ℕ)
    → sum_through (λ i. byte_worth (w - i) (get_or (octets_at (suc w) octets at) i 0)) w ≡ number_at (suc w) octets at
unfolding number_at octets_at
number_of_octets zero octets at = omega arith
number_of_octets (suc w) octets at =
    first_apart (λ i. byte_worth (suc w - i) (get_or (octets_at (suc (suc w)) octets at) i 0)) w
    ∙ simp unary_clauses (ap (λ (lower : ℕ). get_or octets at 0 * (256 ^ w * 256) + lower) (number_of_octets w octets (suc at)))

pub read_as : (w : ℕ) {bytes : List ℕ} {n : ℕ} (octets : List ℕ) (at : ℕ) → bytes ≡ octets_at (suc w) octets at
    → n ≡ sum_through (λ i. byte_worth (w - i) (get_or bytes i 0)) w → n ≡ number_at (suc w) octets at
read_as w octets at loaded is = rw loaded at is ∙ number_of_octets w octets at

-- std's `to_be_bytes`
pub power_pos : (w : ℕ) → 0 < 256 ^ w
power_pos zero = omega arith
power_pos (suc w) = omega (arith, power_pos w)

module _ (w n : ℕ) where
  abbrev high : ℕ
  high = n / 256 ^ w % 256

  octet_apart : n % 256 ^ suc w ≡ high * 256 ^ w + n % 256 ^ w
  octet_apart =
      let more : 256 ^ suc w ≡ 256 * 256 ^ w = omega arith in
      ap (λ (k : ℕ). n % k) more ∙ mod-mul n (omega arith) (power_pos w)

  high_octet : n % 256 ^ suc w / 256 ^ w ≡ high
  high_octet = rw octet_apart (div-mul-add high (256 ^ w) (n % 256 ^ w) (mod-lt n (power_pos w)))

  low_octets : n % 256 ^ suc w % 256 ^ w ≡ n % 256 ^ w
  low_octets = rw octet_apart (mod-mul-add high (256 ^ w) (n % 256 ^ w) (mod-lt n (power_pos w)))

octets_of : (w n : ℕ) → bytes_high_first w n ≡ big_endian w (n % 256 ^ w)
unfolding big_endian
octets_of zero n = refl
octets_of (suc zero) n = let e : n % 256 ≡ n % 256 / 1 = omega arith in ap (λ (k : ℕ). k ∷ []) e
octets_of (suc (suc w)) n =
    let rest = octets_of (suc w) n ∙ ap (big_endian (suc w)) (sym (low_octets (suc w) n)) in
    λ i. sym (high_octet (suc w) n) i ∷ rest i

pub written_as : (w n : ℕ) {bytes new : List ℕ} (old : List ℕ) (at : ℕ) → n < 256 ^ w → bytes ≡ bytes_high_first w n → new ≡ sets old at bytes
    → new ≡ sets old at (big_endian w n)
written_as w n old at below is stored =
    stored ∙ ap (sets old at) (is ∙ octets_of w n ∙ ap (big_endian w) (mod-eq_of_lt below))
