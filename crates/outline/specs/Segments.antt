-- The segments of a contour, read from its rows: x, y, and flags whose bit 0 means on-curve. Definitions only.
use Rattle.std.specs.Prelude.{ℕ, zero, suc, ◌+◌, ◌-◌, Bool, true, false, List, [], ◌∷◌, ltb, ℤ, pos, length, get_or, Float}
use Rattle.std.specs.Float.{binary64}
use Rattle.std.specs.Float.Ieee.{sub, of_int}
use Rattle.refusals.specs.Refusals.{is_on}
use Rattle.float.specs.Numbers.{nought}
use Rattle.geometry.specs.declared.Point.{Point}
use Rattle.outline.specs.declared.Seg.{Seg}
use Rattle.outline.specs.declared.Seg.TheVariants.{Line, Quad}

-- a coordinate as a float; past the end 0
abbrev pub coordinate : List ℤ → ℕ → Float
coordinate row i = of_int binary64 (get_or row i (pos 0))

-- past the end no point is on-curve
abbrev pub on_at : List ℕ → ℕ → Bool
on_at fs i = is_on (get_or fs i 0)

-- how many segments: each on-curve point starts one
abbrev pub one_more : Bool → ℕ → ℕ
one_more true n = suc n
one_more false n = n

unfoldable pub count_of : List ℕ → ℕ
count_of [] = 0
count_of (f ∷ fs) = one_more (is_on f) (count_of fs)

-- ---- places

-- the next of n places, going round
abbrev pub wrap : Bool → ℕ → ℕ
wrap true i = i
wrap false i = 0

abbrev pub next_of : ℕ → ℕ → ℕ
next_of i n = wrap (ltb (i + 1) n) (i + 1)

-- the one before place k, of m, going round
abbrev pub previous : ℕ → ℕ → ℕ
previous m zero = m - 1
previous m (suc k) = k

-- where the segment that starts at place a ends: the next place where that is on-curve, else the one after it
abbrev pub end_if : Bool → ℕ → ℕ → ℕ
end_if true b c = b
end_if false b c = c

unfoldable pub end_of : List ℕ → ℕ → ℕ
end_of fs a =
    let b = next_of a (length fs) in
    end_if (on_at fs b) b (next_of b (length fs))

-- where the k segments from place a on end: each starts where the one before it ended
unfoldable pub place_after : List ℕ → ℕ → ℕ → ℕ
place_after fs a zero = a
place_after fs a (suc k) = end_of fs (place_after fs a k)

-- where segment k starts: the first at place 0
abbrev pub start_of : List ℕ → ℕ → ℕ
start_of fs k = place_after fs 0 k

-- ---- reading

module _ (xs ys : List ℤ) where
  -- a line between the places a and b; a quad from a to c, with its control at b
  abbrev pub line_from : ℕ → ℕ → Seg
  line_from a b = Line (coordinate xs a) (coordinate ys a) (coordinate xs b) (coordinate ys b)

  abbrev pub quad_from : ℕ → ℕ → ℕ → Seg
  quad_from a b c = Quad (coordinate xs a) (coordinate ys a) (coordinate xs b) (coordinate ys b) (coordinate xs c) (coordinate ys c)

  abbrev pub seg_if : Bool → ℕ → ℕ → ℕ → Seg
  seg_if true a b c = line_from a b
  seg_if false a b c = quad_from a b c

  -- the segment that starts at place a: a line where the next point is on-curve, else a quad to the one after it, going round
  unfoldable pub seg_from : List ℕ → ℕ → Seg
  seg_from fs a =
      let b = next_of a (length fs) in
      seg_if (on_at fs b) a b (next_of b (length fs))

  -- segment k
  abbrev pub seg_at : List ℕ → ℕ → Seg
  seg_at fs k = seg_from fs (start_of fs k)

-- ---- of one segment

abbrev pub point : Float → Float → Point
point a b = record { x = a; y = b }

abbrev pub origin : Point
origin = point nought nought

-- from (x0, y0) to (x1, y1)
abbrev pub step : Float → Float → Float → Float → Point
step x0 y0 x1 y1 = point (sub binary64 x1 x0) (sub binary64 y1 y0)

abbrev pub is_quad_of : Seg → Bool
is_quad_of (Line x0 y0 x1 y1) = false
is_quad_of (Quad x0 y0 x1 y1 x2 y2) = true

-- the step from start to end
abbrev pub chord_of : Seg → Point
chord_of (Line x0 y0 x1 y1) = step x0 y0 x1 y1
chord_of (Quad x0 y0 x1 y1 x2 y2) = step x0 y0 x2 y2

-- the tangent at the start, and at the end
abbrev pub leaving_of : Seg → Point
leaving_of (Line x0 y0 x1 y1) = step x0 y0 x1 y1
leaving_of (Quad x0 y0 x1 y1 x2 y2) = step x0 y0 x1 y1

abbrev pub arriving_of : Seg → Point
arriving_of (Line x0 y0 x1 y1) = step x0 y0 x1 y1
arriving_of (Quad x0 y0 x1 y1 x2 y2) = step x1 y1 x2 y2
