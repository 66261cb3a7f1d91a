-- What the entry of two editions hands back and leaves in every lent row: for each edition what the crunch entry promises it, of the same contour,
-- with its own settings and rows and the shared ones. So what an edition gets alone is not said a second time. Definitions only.
use Rattle.std.specs.Prelude.{ℕ, List, Float, ℤ}
use denote.Triple.Both.{Both}
use Rattle.rows.specs.Rows.{work}
use Rattle.rows.specs.Lent.{Lent, before, after, Inputs}
use Rattle.contour.specs.Output.{Outputs, outputs}
use Rattle.contour.specs.Points.{Points}
use Rattle.crunch.specs.Entry as Crunch
use Rattle.editions.specs.Editions.{settings_a, settings_b}
use Rattle.editions.specs.declared.entry.Editions.{Editions}
use Rattle.editions.specs.declared.work.Order.{Order}

-- ---- the rows

-- an edition's own: answers and links, the row for points, the output rows
pub record Own : Type 0 where
  pub answers : List (List Float)
  pub links : List ℕ
  pub points : Points
  pub outs : Outputs

-- shared: samples and breaks
pub record Rows : Type 0 where
  pub samples : List (List Float)
  pub breaks : List (List Float)
  pub own_a : Own
  pub own_b : Own

abbrev pub LentRows : Type 0
LentRows = Both Rows Rows

abbrev pub LentOwn : Type 0
LentOwn = Both Own Own

abbrev pub own : Lent (List Float) → Lent ℕ → Lent (List ℤ) → Lent ℤ → Lent ℤ → Lent ℕ → LentOwn
own answers links points ox oy of = record {
  entry = record { answers = before answers; links = before links; points = before points; outs = outputs (before ox) (before oy) (before of) };
  exit = record { answers = after answers; links = after links; points = after points; outs = outputs (after ox) (after oy) (after of) };
}

abbrev pub rows : Lent (List Float) → Lent (List Float) → LentOwn → LentOwn → LentRows
rows samples breaks a b = record {
  entry = record { samples = before samples; breaks = before breaks; own_a = a.entry; own_b = b.entry };
  exit = record { samples = after samples; breaks = after breaks; own_a = a.exit; own_b = b.exit };
}

-- ---- an edition alone: with the same shared rows and its own

abbrev pub rows_with : Rows → Own → Crunch.Rows
rows_with t e = record { outs = e.outs; work = work t.samples t.breaks e.answers e.links; points = e.points }

abbrev pub rows_a : Rows → Crunch.Rows
rows_a t = rows_with t t.own_a

abbrev pub rows_b : Rows → Crunch.Rows
rows_b t = rows_with t t.own_b

abbrev pub lent_by : (Rows → Crunch.Rows) → LentRows → Crunch.LentRows
lent_by f t = record { entry = f t.entry; exit = f t.exit }

-- the entry's contract
pub record Promise (i : Inputs) (o : Order) (t : LentRows) (r : Editions) : Type 0 where
  pub to_a : Crunch.Promise i (settings_a o) (lent_by rows_a t) r.a
  pub to_b : Crunch.Promise i (settings_b o) (lent_by rows_b t) r.b
