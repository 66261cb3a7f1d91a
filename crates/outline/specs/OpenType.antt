-- What OpenType's `glyf` table says of a contour, apart from how it is read. Bit 0 of a point's flag says whether the point is
-- on the curve. A contour is closed: its last point is joined to its first. Two on-curve points in a row are the ends of a line;
-- an off-curve point between two on-curve points is the control of a quad between them. Definitions only.
use Rattle.std.specs.Prelude.{ℕ, Bool, true, false, List, [], ◌∷◌, ℤ}
use Rattle.std.specs.Float.{binary64}
use Rattle.std.specs.Float.Ieee.{of_int}
use Rattle.refusals.specs.Refusals.{is_on}
use Rattle.outline.specs.declared.Seg.{Seg}
use Rattle.outline.specs.declared.Seg.TheVariants.{Line, Quad}

pub data Spot : Type 0 where
  on : ℤ → ℤ → Spot
  off : ℤ → ℤ → Spot

abbrev pub spot : Bool → ℤ → ℤ → Spot
spot true x y = on x y
spot false x y = off x y

-- the points of the three rows
unfoldable pub points : List ℤ → List ℤ → List ℕ → List Spot
points [] ys fs = []
points (x ∷ xs) [] fs = []
points (x ∷ xs) (y ∷ ys) [] = []
points (x ∷ xs) (y ∷ ys) (f ∷ fs) = spot (is_on f) x y ∷ points xs ys fs

-- the line and the quad of points, with coordinates as floats
abbrev pub line : ℤ → ℤ → ℤ → ℤ → Seg
line x0 y0 x1 y1 = Line (of_int binary64 x0) (of_int binary64 y0) (of_int binary64 x1) (of_int binary64 y1)

abbrev pub quad : ℤ → ℤ → ℤ → ℤ → ℤ → ℤ → Seg
quad x0 y0 x1 y1 x2 y2 = Quad (of_int binary64 x0) (of_int binary64 y0) (of_int binary64 x1) (of_int binary64 y1) (of_int binary64 x2) (of_int binary64 y2)

-- from the on-curve point (x, y) through the points that are left, and back to the first point (x0, y0). Between two off-curve
-- points in a row OpenType implies an on-curve point; refusal 5 is given for such a row, and nothing is said of it here.
unfoldable pub outline_from : ℤ → ℤ → ℤ → ℤ → List Spot → List Seg
outline_from x0 y0 x y [] = line x y x0 y0 ∷ []
outline_from x0 y0 x y (on u v ∷ rest) = line x y u v ∷ outline_from x0 y0 u v rest
outline_from x0 y0 x y (off u v ∷ []) = quad x y u v x0 y0 ∷ []
outline_from x0 y0 x y (off u v ∷ on s t ∷ rest) = quad x y u v s t ∷ outline_from x0 y0 s t rest
outline_from x0 y0 x y (off u v ∷ off s t ∷ rest) = []

-- the segments of a contour whose first point is on-curve (refusal 4 is given for any other)
unfoldable pub outline : List Spot → List Seg
outline [] = []
outline (on x y ∷ rest) = outline_from x y x y rest
outline (off x y ∷ rest) = []
