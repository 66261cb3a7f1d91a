-- What the functions leave in the row of points that they fill, and when numbers are within reach of the halvings left. Definitions only.
use Rattle.std.specs.Prelude.{ℕ, false, ◌||◌, List, map, ◌≡◌, ℤ}
use Rattle.contour.specs.Points.{Points}
use Rattle.contour.specs.Writing.{Wrote, Appended, written}
use Rattle.contour.specs.declared.Written.{Written}
use Rattle.halving.specs.Exact.{cut_to}
use Rattle.cubics.specs.Replacing.{any_outside}
use Rattle.cubics.specs.declared.Made.{Made}

-- a point as it is stored: brought into 16 bits
abbrev pub stored : List ℤ → List ℤ
stored p = map cut_to p

abbrev pub written_of : Made → Written
written_of m = record { count = m.count; over = m.over }

abbrev pub nothing : Made
nothing = record { count = 0; over = false; far = false }

-- a row₀ with m made becomes a row with r made: the points ps come after the others
pub record Makes (row₀ : Points) (m : Made) (row : Points) (r : Made) (ps : Points) : Type 0 where
  pub wrote : Appended row₀ (written_of m) row (written_of r) (map stored ps)
  pub far : r.far ≡ (m.far || any_outside ps)

-- a row of so many places in which just ps are made
pub record MadeOf (room : ℕ) (row : Points) (m : Made) (ps : Points) : Type 0 where
  pub wrote : Wrote row (written_of m) (written room (map stored ps))
  pub far : m.far ≡ any_outside ps
