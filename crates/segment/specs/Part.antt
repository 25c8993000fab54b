-- An option that is returned as that very part of the segment.
use Rattle.std.specs.Prelude.{ℕ, ◌+◌, ◌*◌, ◌≤◌, ◌<◌, true, List, [], ◌≡◌, get_or, length}
use Rattle.std.specs.Borrow.{Bor}
use Rattle.segment.specs.Options.{Found, found, nothing, stands_in}
use Rattle.segment.specs.Reading.{data_offset}

-- the place and the octets of the part that is returned; where no option is found, document 01 leaves the place free, and it is the start
abbrev pub part_of : Found → ℕ × List ℕ
part_of nothing = (0, [])
part_of (found place octets) = (place, octets)

-- `r` is that very part of a slice that starts at the pointer `from`: it has the part's octets and points to the part's place
abbrev pub IsPart : Bor (List ℕ) → ℕ × ℕ → Found → Type 0
IsPart r from f = (r.now ≡ (part_of f).1) × (r.ref_ptr.0 ≡ from.0) × (r.ref_ptr.1 ≡ from.1 + (part_of f).0)

-- what holds of every option that is found: it lies among the options of the segment, and has a listed kind and its own length
pub record Inside (s kinds : List ℕ) (place : ℕ) (octets : List ℕ) : Type 0 where
  pub after_header : 20 ≤ place
  pub before_payload : place + length octets ≤ 4 * data_offset s
  pub octets_there : (k : ℕ) → k < length octets → get_or octets k 0 ≡ get_or s (place + k) 0
  pub kind_listed : stands_in (get_or octets 0 0) kinds ≡ true
  pub length_counted : get_or octets 1 0 ≡ length octets
