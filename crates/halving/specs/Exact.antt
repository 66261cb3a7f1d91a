-- When the f64s of a cubic are exactly whole numbers of a unit 1 / 2 ^ e. Definitions only.
use Rattle.std.specs.Prelude.{ℕ, ◌+◌, ◌*◌, ◌^◌, ◌≤◌, min, ◌≡◌, ℤ, pos, negsuc}
use Rattle.float.specs.Dyadic.{Exact}
use Rattle.halving.specs.Cubic.{Four, Curve, outside}
use Rattle.halving.specs.declared.Axis.{Axis}
use Rattle.halving.specs.declared.Cubic as D
use Rattle.halving.specs.declared.Rounded.{Rounded}

-- the four coordinates, and those of both axes
pub record ExactAxis (a : Axis) (f : Four) (e b : ℕ) : Type 0 where
  pub p0 : Exact a.p0 f.p0 e b
  pub p1 : Exact a.p1 f.p1 e b
  pub p2 : Exact a.p2 f.p2 e b
  pub p3 : Exact a.p3 f.p3 e b

pub record ExactCubic (a : D.Cubic) (c : Curve) (e b : ℕ) : Type 0 where
  pub x : ExactAxis a.x c.x e b
  pub y : ExactAxis a.y c.y e b

-- within 53 digits: so coarse that the eightfold of b is too, in a unit that f64 has
pub record Roomy (e b : ℕ) : Type 0 where
  pub low : e ≤ 1000
  pub few : b ≤ 2 ^ 40

-- with so many halvings left, they stay within 53 digits
pub record Reach (left e b : ℕ) : Type 0 where
  pub low : e + 3 * left ≤ 900
  pub few : b * 8 ^ left ≤ 2 ^ 30

-- ---- a rounded number in the code: whether it is outside 16 bits, and it brought into 16 bits

abbrev pub cut_to : ℤ → ℤ
cut_to (pos n) = pos (min n 32767)
cut_to (negsuc n) = negsuc (min n 32767)

pub record Brought (z : ℤ) (r : Rounded) : Type 0 where
  pub far : r.far ≡ outside z
  pub value : r.value ≡ cut_to z
