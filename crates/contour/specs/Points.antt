-- The points of a contour as they are written, [x, y, flag], where the flag is 1 on-curve and 0 off: of a segment, of a piece, of a
-- contour that stays unchanged. Definitions only.
use Rattle.std.specs.Prelude.{ℕ, zero, suc, ◌-◌, Bool, true, false, List, [], ◌∷◌, ◌++◌, ℤ, pos, length, take, get_or}
use Rattle.std.specs.Float.Ieee.{to_signed}
use Rattle.geometry.specs.declared.Point.{Point}
use Rattle.geometry.specs.declared.Quad as Q
use Rattle.geometry.specs.Geometry.{is_line}
use Rattle.outline.specs.declared.Seg.{Seg}
use Rattle.outline.specs.declared.Seg.TheVariants.{Line, Quad}
use Rattle.outline.specs.Segments.{point, on_at, count_of, seg_at}

abbrev pub Points : Type 0
Points = List (List ℤ)

-- coordinates are cut and saturated to 16 bits, the Rust's `as i16`
abbrev pub on_point : Point → List ℤ
on_point p = to_signed 15 p.x ∷ to_signed 15 p.y ∷ pos 1 ∷ []

abbrev pub off_point : Point → List ℤ
off_point p = to_signed 15 p.x ∷ to_signed 15 p.y ∷ pos 0 ∷ []

-- a segment's points, after its start
abbrev pub points_of : Seg → Points
points_of (Line x0 y0 x1 y1) = on_point (point x1 y1) ∷ []
points_of (Quad x0 y0 x1 y1 x2 y2) = off_point (point x1 y1) ∷ on_point (point x2 y2) ∷ []

-- a piece's points, after its start: a line gives its end alone
abbrev pub piece_if : Bool → Q.Quad → Points
piece_if true q = on_point q.p2 ∷ []
piece_if false q = off_point q.p1 ∷ on_point q.p2 ∷ []

abbrev pub piece_points : Q.Quad → Points
piece_points q = piece_if (is_line q) q

-- the pieces of a chain, one after the other
unfoldable pub pieces_points : List Q.Quad → Points
pieces_points [] = []
pieces_points (q ∷ qs) = piece_points q ++ pieces_points qs

-- the point at a place, with its coordinates as they came
abbrev pub flag_if : Bool → ℤ
flag_if true = pos 1
flag_if false = pos 0

abbrev pub point_as : Bool → List ℤ → List ℤ → ℕ → List ℤ
point_as on xs ys i = get_or xs i (pos 0) ∷ get_or ys i (pos 0) ∷ flag_if on ∷ []

-- the start point
abbrev pub start_point : List ℤ → List ℤ → List ℤ
start_point xs ys = point_as true xs ys 0

module _ (xs ys : List ℤ) (fs : List ℕ) where
  -- the start, then the points of the first k segments
  unfoldable pub points_to : ℕ → Points
  points_to zero = start_point xs ys ∷ []
  points_to (suc k) = points_to k ++ points_of (seg_at xs ys fs k)

  -- the contour itself: the start, then every segment's points. The closing segment is one of its own, so the start comes again at the end.
  abbrev pub unchanged_points : Points
  unchanged_points = points_to (count_of fs)

  -- ---- closed mode: the points in their order, the start not again

  -- the first k of them
  unfoldable pub came_to : ℕ → Points
  came_to zero = []
  came_to (suc k) = came_to k ++ (point_as (on_at fs k) xs ys k ∷ [])

  -- the contour itself, by the mode
  abbrev pub unchanged_in : Bool → Points
  unchanged_in true = came_to (length fs)
  unchanged_in false = unchanged_points

-- from the start s round to it: the end of the last piece is not written, since the start stands for it
abbrev pub around : List ℤ → Points → Points
around s ps = s ∷ take (length ps - 1) ps
