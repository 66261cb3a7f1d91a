-- A contour with its implied points written out, in document 02's words for W13: from its first on-curve point on, with the middle of two
-- off-curve points that follow each other between them. And its outline, in which the middle is exact. Definitions only.
use Rattle.std.specs.Prelude.{ℕ, ◌+◌, ◌-◌, Bool, true, false, cond, ◌&&◌, List, [], ◌∷◌, ◌++◌, ltb, ℤ, pos, ◌+ℤ◌, length, take, drop}
use Rattle.refusals.specs.Refusals.{is_on}
use Rattle.rows.specs.Lent.{Inputs, inputs}
use Rattle.contour.specs.Points.{Points, came_to}
use Rattle.contour.specs.Implied.{number, off_curve}
use Rattle.halving.specs.Cubic.{mid, nearest, point}

-- ---- turned to the first on-curve point

-- the points of the rows: x, y, and 1 on-curve or 0 off
abbrev pub points_of : Inputs → Points
points_of (inputs xs ys fs) = came_to xs ys fs (length fs)

-- the place of the first on-curve point; how many points there are, where none is
unfoldable pub first_on : List ℕ → ℕ
first_on [] = 0
first_on (f ∷ fs) = cond (is_on f) 0 (first_on fs + 1)

-- from a place round to it
abbrev pub turned : ℕ → Points → Points
turned start ps = drop start ps ++ take start ps

-- place k of n points that are turned so
abbrev pub place_from : ℕ → ℕ → ℕ → ℕ
place_from start n k = cond (ltb k (n - start)) (start + k) (k - (n - start))

-- ---- implied points put in

abbrev pub both_off : List ℤ → List ℤ → Bool
both_off p q = off_curve p && off_curve q

abbrev pub only_if : Bool → List ℤ → Points
only_if true m = m ∷ []
only_if false m = []

-- by a rule for what is put between two off-curve points, each point as it is shown
module _ (between : List ℤ → List ℤ → List ℤ) (shown : List ℤ → List ℤ) where
  -- what comes after the point p
  unfoldable pub after : List ℤ → Points → Points
  after p [] = []
  after p (q ∷ qs) = only_if (both_off p q) (between p q) ++ (shown q ∷ after q qs)

  -- after the last comes nothing more: the first is on-curve
  unfoldable pub put_in : Points → Points
  put_in [] = []
  put_in (p ∷ ps) = shown p ∷ after p ps

-- ---- what is written

-- half of the sum of two coordinates, halves away from zero
abbrev pub middle : ℤ → ℤ → ℤ
middle a b = nearest 1 (mid a b)

-- the middle of two points, on-curve
abbrev pub implied_point : List ℤ → List ℤ → List ℤ
implied_point p q = point (middle (number p 0) (number q 0)) (middle (number p 1) (number q 1)) (pos 1)

abbrev pub implied_between : List ℤ → List ℤ → Points
implied_between p q = only_if (both_off p q) (implied_point p q)

abbrev pub itself : List ℤ → List ℤ
itself p = p

abbrev pub explicit_from : ℕ → Inputs → Points
explicit_from start i = put_in implied_point itself (turned start (points_of i))

abbrev pub start_of : Inputs → ℕ
start_of (inputs xs ys fs) = first_on fs

abbrev pub explicit_of : Inputs → Points
explicit_of i = explicit_from (start_of i) i

-- ---- the outline, in half units: there every middle is whole

abbrev pub doubled : List ℤ → List ℤ
doubled p = point (number p 0 +ℤ number p 0) (number p 1 +ℤ number p 1) (number p 2)

-- the middle of two points, exactly
abbrev pub exact_middle : List ℤ → List ℤ → List ℤ
exact_middle p q = point (mid (number p 0) (number q 0)) (mid (number p 1) (number q 1)) (pos 1)

abbrev pub outline_of : Inputs → Points
outline_of i = put_in exact_middle doubled (turned (start_of i) (points_of i))
