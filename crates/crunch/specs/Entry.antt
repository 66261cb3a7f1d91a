-- What the crunch entry hands back and leaves in every lent row. Definitions only.
use Rattle.std.specs.Prelude.{ℕ, min, List, ◌≡◌, ℤ, length, replicate, Result, Ok, Err}
use Rattle.refusals.specs.declared.refusal.Refusal.{Refusal}
use denote.Triple.Both.{Both}
use Rattle.refusals.specs.Number.{number_of}
use Rattle.rows.specs.Rows.{Work, point_zero}
use Rattle.rows.specs.Lent.{Lent, before, after, Inputs, inputs}
use Rattle.settings.specs.declared.Settings.{Settings}
use Rattle.contour.specs.Points.{Points}
use Rattle.contour.specs.Output.{Outputs, outputs, with_points}
use Rattle.edition.specs.Scratch.{Scratch, rooms_of, cleared}
use Rattle.crunch.specs.Crunch.{Outcome, refused, crunched, crunch_of}
use Rattle.crunch.specs.declared.Crunched as C

-- document 01's values for each answer: its number, which is 0 where nothing is refused, the points written and the pairs tried; and
-- document 02's lookups that fell
pub record Report : Type 0 where
  pub number : ℕ
  pub points : ℕ
  pub pairs : ℕ
  pub fallen : ℕ

abbrev pub report : Result C.Crunched Refusal → Report
report (Err k) = record { number = number_of k; points = 0; pairs = 0; fallen = 0 }
report (Ok c) = record { number = 0; points = c.points; pairs = c.tally.pairs; fallen = c.tally.fallen }

abbrev pub answer_of : Outcome → Result C.Crunched Refusal
answer_of (refused k) = Err k
answer_of (crunched ps t) = Ok (record { points = (length ps); tally = t })

-- a refusal writes no point; success writes the first points and no others
abbrev pub outputs_of : Outcome → Outputs → Outputs
outputs_of (refused k) o = o
outputs_of (crunched ps t) o = with_points ps o

-- ---- the rows

-- the output rows, the rows that a run is worked in, and the row for points
pub record Rows : Type 0 where
  pub outs : Outputs
  pub work : Work
  pub points : Points

abbrev pub LentRows : Type 0
LentRows = Both Rows Rows

abbrev pub rows : Lent ℤ → Lent ℤ → Lent ℕ → Scratch → Lent (List ℤ) → LentRows
rows ox oy of w points = record {
  entry = record { outs = outputs (before ox) (before oy) (before of); work = w.entry; points = before points };
  exit = record { outs = outputs (after ox) (after oy) (after of); work = w.exit; points = after points };
}

-- the shortest of the output rows and the row for points
abbrev pub room_in : Outputs → ℕ → ℕ
room_in (outputs ox oy of) points = min (min (length ox) (length oy)) (min (length of) points)

abbrev pub point_room : Rows → ℕ
point_room t = room_in t.outs (length t.points)

-- the whole of a contour
abbrev pub whole_of : Inputs → Settings → Rows → Outcome
whole_of (inputs xs ys fs) settings t = crunch_of (rooms_of t.work) (point_room t) settings xs ys fs

-- the entry's contract: what it hands back, what it writes, and that the scratch rows are zero throughout, whatever they held
pub record Promise (i : Inputs) (settings : Settings) (t : LentRows) (r : Result C.Crunched Refusal) : Type 0 where
  pub answer : r ≡ answer_of (whole_of i settings t.entry)
  pub outs : t.exit.outs ≡ outputs_of (whole_of i settings t.entry) t.entry.outs
  pub work : t.exit.work ≡ cleared t.entry.work
  pub points : t.exit.points ≡ replicate (length t.entry.points) point_zero
