-- A contour of cubics made quads: the points that are written, each rounded once, in document 02's words. Definitions only.
use Rattle.std.specs.Prelude.{ℕ, zero, suc, ◌+◌, ◌-◌, Bool, true, false, cond, ◌||◌, List, [], ◌∷◌, ◌++◌, ltb, ℤ, pos, length, get_or}
use Rattle.refusals.specs.Refusals.{is_on}
use Rattle.contour.specs.Points.{Points}
use Rattle.halving.specs.Cubic.{Four, Curve, outside, point, between}

-- ---- the cubic whose controls stand at places i and i + 1 of n, between the points before and after them; after the last comes the first

abbrev pub after_pair : ℕ → ℕ → ℕ
after_pair i n = cond (ltb (i + 2) n) (i + 2) 0

abbrev pub four_at : List ℤ → ℕ → ℕ → Four
four_at row n i = record { p0 = get_or row (i - 1) (pos 0); p1 = get_or row i (pos 0); p2 = get_or row (i + 1) (pos 0); p3 = get_or row (after_pair i n) (pos 0) }

abbrev pub curve_at : List ℤ → List ℤ → ℕ → ℕ → Curve
curve_at xs ys n i = record { x = four_at xs n i; y = four_at ys n i }

-- ---- what is written for a place: an on-curve point, itself; the first of a pair, what lies between the cubic's ends; the second, nothing

abbrev pub on_at : List ℕ → ℕ → Bool
on_at fs i = is_on (get_or fs i 0)

-- is it on-curve, and is the one before it
abbrev pub placed : Bool → Bool → Points → Points → Points
placed true before itself pair = itself
placed false true itself pair = pair
placed false false itself pair = []

module _ (xs ys : List ℤ) (fs : List ℕ) where
  abbrev pub itself_at : ℕ → Points
  itself_at i = point (get_or xs i (pos 0)) (get_or ys i (pos 0)) (pos 1) ∷ []

  -- five halvings are enough for points of 16 bits: proofs/Depth.antt of `halving`
  abbrev pub pair_at : ℕ → Points
  pair_at i = between 5 0 (curve_at xs ys (length fs) i)

  abbrev pub points_at : ℕ → Points
  points_at i = placed (on_at fs i) (on_at fs (i - 1)) (itself_at i) (pair_at i)

  -- of the first k places. A last pair's end is the start, which stands already.
  unfoldable pub points_to : ℕ → Points
  points_to zero = []
  points_to (suc k) = points_to k ++ points_at k

  abbrev pub points_of : Points
  points_of = points_to (length fs)

-- ---- 17: a rounded point outside 16 bits: one of its numbers is, where its flag never is

unfoldable pub outside_point : List ℤ → Bool
outside_point [] = false
outside_point (z ∷ p) = outside z || outside_point p

unfoldable pub any_outside : Points → Bool
any_outside [] = false
any_outside (p ∷ ps) = outside_point p || any_outside ps
