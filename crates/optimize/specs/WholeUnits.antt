-- W9's profile of whole units: from a finite break no piece is held back for half units. The straight piece is tried, and the bent one is allowed at
-- every crossing. The statement is a type here, and `never_held_back` of proofs/WholeUnits is of that type. Statements only.
use Rattle.std.specs.Prelude.{ℕ, ◌<◌, true, List, ◌≡◌, length, Float}
use Rattle.geometry.specs.Geometry.{line_quad, Finite}
use Rattle.geometry.specs.declared.Point.{Point}
use Rattle.breaks.specs.Breaks as Breaks
use Rattle.breaks.specs.Breaks.{Row, whole_grid, break_at, breaks_of}
use Rattle.attempt.specs.Answers.{Best, ok_for_half}
use Rattle.optimize.specs.Optimize.{Measure, best_at, try_quad, straight, bent_quad}

-- from break i to break j, whatever stands at the breaks
pub record FreeFrom (measure : Measure) (breaks : Row) (penalty : Float) (i j : ℕ) (st : List Best) : Type 0 where
  pub straight_tried : straight measure breaks penalty i j st ≡ try_quad measure breaks penalty i j (line_quad (break_at breaks i).xy (break_at breaks j).xy) st
  pub bent_allowed : (p : Point) → ok_for_half (best_at st i) (bent_quad measure breaks penalty i j p) ≡ true

abbrev pub NeverHeldBack : Type 0
NeverHeldBack =
    (room : ℕ) (samples : List (List Float)) (len : Float) (breaks : Row) → breaks_of room samples whole_grid len ≡ Breaks.breaks breaks →
    (measure : Measure) (penalty : Float) (i j : ℕ) (st : List Best) → i < length breaks → Finite (break_at breaks i).xy →
    FreeFrom measure breaks penalty i j st
