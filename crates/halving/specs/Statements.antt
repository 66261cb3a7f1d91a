-- What W7 asks to be proved of one cubic, as types; a theorem of proofs/ is of each: `parts_exact` of Halving; `divides_by_eight`, `one_depth`,
-- `points_between` and `quads_near` of Depth. Definitions and statements only.
use Rattle.std.specs.Prelude.{ℕ, ◌+◌, ◌*◌, ◌^◌, ◌≤◌, ◌<◌, Bool, true, false, List, [], ◌∷◌, ◌≡◌, ◌+ℤ◌, ◌-ℤ◌, length}
use Rattle.std.specs.Int.Signed.{mag}
use Rattle.float.specs.Dyadic.{Exact}
use Rattle.halving.specs.Cubic.{Four, Curve, times, first_half, second_half, first_part, second_part, third_difference, is_bent, control}
use Rattle.halving.specs.Depth.{all_halved, Depth}
use Rattle.halving.specs.Exact.{ExactAxis, ExactCubic}
use Rattle.halving.specs.Steps.{third_of, bent_of, control_of, first_cubic, second_cubic}
use Rattle.halving.specs.declared.Axis.{Axis}
use Rattle.halving.specs.declared.Cubic as D

-- ---- the parts are exact in f64

-- a part after some halvings, of each the first half where true stands, else the second: in whole numbers, and in the f64s of the code
unfoldable pub part_along : List Bool → Curve → Curve
part_along [] c = c
part_along (true ∷ halves) c = part_along halves (first_part c)
part_along (false ∷ halves) c = part_along halves (second_part c)

unfoldable pub cubic_along : List Bool → D.Cubic → D.Cubic
cubic_along [] a = a
cubic_along (true ∷ halves) a = cubic_along halves (first_cubic a)
cubic_along (false ∷ halves) a = cubic_along halves (second_cubic a)

-- one coordinate of a part: its points, its third difference and its control are exactly whole numbers of a unit; and the test is that of the numbers
pub record ExactPart (a : Axis) (f : Four) (e : ℕ) : Type 0 where
  pub points : ExactAxis a f e (2 ^ 30)
  pub third : Exact (third_of a) (third_difference f) e (2 ^ 33)
  pub over_four : Exact (control_of a) (control f) (e + 2) (2 ^ 33)
  pub test : bent_of a ≡ is_bent e f

pub record ExactParts (a : D.Cubic) (c : Curve) (e : ℕ) : Type 0 where
  pub x : ExactPart a.x c.x e
  pub y : ExactPart a.y c.y e

-- of points of 16 bits, halved at most five times
abbrev pub PartsAreExact : Type 0
PartsAreExact =
    (halves : List Bool) (a : D.Cubic) (c : Curve) → length halves ≤ 5 → ExactCubic a c 0 (2 ^ 15) →
    ExactParts (cubic_along halves a) (part_along halves c) (3 * length halves)

-- ---- five halvings are enough

-- each halving divides the third difference by 8: counted in eighths of the unit it is the same number
pub record Eighth (f : Four) : Type 0 where
  pub first : third_difference (first_half f) ≡ third_difference f
  pub second : third_difference (second_half f) ≡ third_difference f

abbrev pub DividesByEight : Type 0
DividesByEight = (f : Four) → Eighth f

-- 16-bit coordinates, -2 ^ 15 to 2 ^ 15 - 1
pub record SixteenBits (f : Four) : Type 0 where
  pub p0 : mag f.p0 < 2 ^ 15
  pub p1 : mag f.p1 < 2 ^ 15
  pub p2 : mag f.p2 < 2 ^ 15
  pub p3 : mag f.p3 < 2 ^ 15

-- all parts of a cubic of such points have one depth, of at most five halvings
abbrev pub OneDepth : Type 0
OneDepth = (c : Curve) → SixteenBits c.x → SixteenBits c.y → (d : ℕ) × Depth c d

-- and so many points lie between its ends: 2 ^ d controls, and the 2 ^ d - 1 points between them
abbrev pub PointsBetween : Type 0
PointsBetween = (d e : ℕ) (c : Curve) → length (all_halved d e c) + 1 ≡ 2 * 2 ^ d

-- ---- how far: raised to a cubic, the quad has the ends of the part, and its inner points are a sixth of the third difference away: for the control c,
-- 6 ((p0 + 2 c) / 3) is 2 p0 + control. So part less quad at t is the third difference times t (1 - t) (1 - 2 t) / 2.
pub record Near (f : Four) : Type 0 where
  pub p1 : times 6 f.p1 -ℤ (times 2 f.p0 +ℤ control f) ≡ third_difference f
  pub p2 : (times 2 f.p3 +ℤ control f) -ℤ times 6 f.p2 ≡ third_difference f

abbrev pub QuadsAreNear : Type 0
QuadsAreNear = (f : Four) → Near f
