-- What the output rows are given of points: x, y, and the flag, 1 or 0. Definitions only.
use Rattle.std.specs.Prelude.{ℕ, Bool, true, false, List, ◌++◌, map, ℤ, length, drop}
use Rattle.contour.specs.Points.{Points}
use Rattle.contour.specs.Implied.{number, off_curve}

-- number k of each point
abbrev pub column : ℕ → Points → List ℤ
column k ps = map (λ (p : List ℤ). number p k) ps

abbrev pub flag_if : Bool → ℕ
flag_if true = 0
flag_if false = 1

abbrev pub flag_of : List ℤ → ℕ
flag_of p = flag_if (off_curve p)

abbrev pub flags : Points → List ℕ
flags ps = map flag_of ps

-- a row with s in its first places; the others stay
abbrev pub front {ℓ} : {A : Type ℓ} → List A → List A → List A
front s row = s ++ drop (length s) row

-- the output rows: x, y, flags
pub data Outputs : Type 0 where
  outputs : List ℤ → List ℤ → List ℕ → Outputs

-- the rows with the points in their first places
abbrev pub with_points : Points → Outputs → Outputs
with_points ps (outputs ox oy of) = outputs (front (column 0 ps) ox) (front (column 1 ps) oy) (front (flags ps) of)
