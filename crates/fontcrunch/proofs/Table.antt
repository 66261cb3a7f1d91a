-- Document 01's table holds, all rows of it: those of one computation (specs/Table), and those that work a run. Assumes nothing.
use mathlib.Core.List.{[], ◌∷◌, ◌++◌, Memᴰ}
use mathlib.Core.Path.{◌≡◌}
use Rattle.float.proofs.Table.{each}
use Rattle.fontcrunch.specs.Table.{Row, evaluate, in_steps, rows, Hold, TableHolds, at_once_hold}
use Rattle.fontcrunch.proofs.Still as Still
use Rattle.fontcrunch.proofs.Solved as Solved
use Rattle.fontcrunch.proofs.Lost as Lost

in_steps_hold : Hold in_steps
in_steps_hold = λ i. Still.row_holds i ∷ Still.closed_row_holds i ∷ Solved.row_holds i ∷ Solved.closed_row_holds i ∷ Lost.row_holds i ∷ []

pub table_holds : TableHolds
table_holds = λ i. at_once_hold i ++ in_steps_hold i

-- each row by itself
pub worked : (r : Row) → Memᴰ r rows → evaluate r.case ≡ r.result
worked = each (λ (r : Row). evaluate r.case) (λ (r : Row). r.result) rows table_holds
