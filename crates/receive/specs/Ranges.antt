-- The held ranges as a list, newest first, and what a part of the window does to them (document 01, "What taking does"). A part and the
-- ends of a range are offsets from RCV.NXT, which is `nxt` below.
use Rattle.std.specs.Prelude.{Bool, cond, not, ◌&&◌, List, [], ◌∷◌, ◌++◌, ℕ, ◌-◌, min, max, eqb, leb, ltb, length, replicate, take}
use Rattle.serial.specs.Serial.{moved_by, offset_of, range}
use Rattle.serial.specs.declared.Range.{Range}
use Rattle.receive.specs.declared.Held.{Held}
use Rattle.receive.specs.declared.Part.{Part}
use Rattle.laws.specs.Lists.{any, filter}

-- what stands in a slot that holds no range
abbrev pub unused : Range
unused = range 0 0

-- a list of at most eight ranges as it is held
unfoldable pub held_of : List Range → Held
held_of ranges = record { ranges = ranges ++ replicate (8 - length ranges) unused; count = length ranges }

-- the ranges that are held
unfoldable pub ranges_of : Held → List Range
ranges_of held = take held.count held.ranges

-- the ends of a range
unfoldable pub left_of : ℕ → Range → ℕ
left_of nxt r = offset_of nxt r.left.0

unfoldable pub right_of : ℕ → Range → ℕ
right_of nxt r = offset_of nxt r.right.0

-- the offset o lies in the part
abbrev pub lies_in : Part → ℕ → Bool
lies_in p o = leb p.from o && ltb o p.to

-- the range overlaps or touches the part
unfoldable pub meets : ℕ → Part → Range → Bool
meets nxt p r = leb (left_of nxt r) p.to && leb p.from (right_of nxt r)

abbrev pub met : ℕ → Part → List Range → List Range
met nxt p ranges = filter (meets nxt p) ranges

abbrev pub unmet : ℕ → Part → List Range → List Range
unmet nxt p ranges = filter (λ r. not (meets nxt p r)) ranges

-- the least of an offset and the left ends, and the greatest of an offset and the right ends
abbrev pub least : ℕ → ℕ → List Range → ℕ
least nxt o [] = o
least nxt o (r ∷ rs) = min (left_of nxt r) (least nxt o rs)

abbrev pub greatest : ℕ → ℕ → List Range → ℕ
greatest nxt o [] = o
greatest nxt o (r ∷ rs) = max (right_of nxt r) (greatest nxt o rs)

-- the part joined with all ranges that it overlaps or touches
unfoldable pub joined : ℕ → Part → List Range → Part
joined nxt p ranges = record { from = least nxt p.from (met nxt p ranges); to = greatest nxt p.to (met nxt p ranges) }

-- a part as a range of sequence numbers
unfoldable pub range_of : ℕ → Part → Range
range_of nxt p = range (moved_by nxt p.from) (moved_by nxt p.to)

-- an out-of-order part: it is not empty and does not start at 0
unfoldable pub is_out_of_order : Part → Bool
is_out_of_order p = ltb 0 p.from && ltb p.from p.to

-- verdict 30: eight are held, the part is not empty, does not start at 0, and neither overlaps nor touches any
unfoldable pub no_room : ℕ → Part → List Range → Bool
no_room nxt p ranges = eqb (length ranges) 8 && (is_out_of_order p && not (any (meets nxt p) ranges))

-- a part that is not empty and does not start at 0 joins all ranges that it overlaps or touches into one, put first; the rest keep
-- their order. An empty part, and one for which there is no room, change no range.
unfoldable pub ranges_after : ℕ → Part → List Range → List Range
ranges_after nxt p ranges =
    cond (is_out_of_order p && not (no_room nxt p ranges)) (range_of nxt (joined nxt p ranges) ∷ unmet nxt p ranges) ranges
