-- What the entry's own steps leave in the output rows. Definitions only.
use Rattle.std.specs.Prelude.{◌≡◌, take, Result, Ok, Err}
use Rattle.refusals.specs.declared.refusal.Refusal.{Refusal}
use Rattle.rows.specs.Lent.{Inputs}
use Rattle.settings.specs.declared.Settings.{Settings}
use Rattle.contour.specs.Points.{Points}
use Rattle.contour.specs.Output.{Outputs, with_points}
use Rattle.crunch.specs.Entry.{answer_of, outputs_of, LentRows, whole_of}
use Rattle.crunch.specs.declared.Crunched as D

-- the points that an answer counts, in the first places of the output rows
abbrev pub copied : Result D.Crunched Refusal → Points → Outputs → Outputs
copied (Err k) row o = o
copied (Ok c) row o = with_points (take c.points row) o

-- the answer and the output rows, before the scratch rows are cleared
pub record Answered (i : Inputs) (settings : Settings) (t : LentRows) (r : Result D.Crunched Refusal) : Type 0 where
  pub answer : r ≡ answer_of (whole_of i settings t.entry)
  pub outs : t.exit.outs ≡ outputs_of (whole_of i settings t.entry) t.entry.outs
