-- Calls of fontcrunch_editions, and what it promises. Definitions and statements; the theorems stand in proofs/Stated/BothEditions.
use Rattle.std.specs.Prelude.{ℕ, List, ◌≡◌, Float, ℤ, length}
use Rattle.refusals.specs.Number.{number_of}
use Rattle.rows.specs.Lent.{Inputs, inputs, Shown}
use Rattle.contour.specs.Output.{outputs}
use Rattle.crunch.specs.Crunch.{Outcome, refused, crunched}
use Rattle.crunch.specs.Entry as Crunch
use Rattle.editions.specs.Editions.{order_of, settings_a, settings_b}
use Rattle.editions.specs.Entry.{Rows, rows_a, rows_b, Promise}
use Rattle.editions.specs.Determine.{AlikeBoth}
use Rattle.editions.specs.declared.work.Order.{Order}
use Rattle.exports.specs.BothEditions as Reports
use Rattle.exports.specs.declared.both_editions.EditionReport.{EditionReport}
use Rattle.exports.specs.declared.both_editions.EditionsReport.{EditionsReport}

pub record EditionsGiven : Type 0 where
  pub xs : List ℤ
  pub ys : List ℤ
  pub flags : List ℕ
  pub penalty_a : ℕ
  pub penalty_b : ℕ
  pub whole_units : ℕ
  pub closed : ℕ
  pub samples : List (List Float)
  pub breaks : List (List Float)
  pub answers_a : List (List Float)
  pub links_a : List ℕ
  pub points_a : List (List ℤ)
  pub ox_a : List ℤ
  pub oy_a : List ℤ
  pub of_a : List ℕ
  pub answers_b : List (List Float)
  pub links_b : List ℕ
  pub points_b : List (List ℤ)
  pub ox_b : List ℤ
  pub oy_b : List ℤ
  pub of_b : List ℕ

pub record EditionsLeft : Type 0 where
  pub report : EditionsReport
  pub samples : List (List Float)
  pub breaks : List (List Float)
  pub answers_a : List (List Float)
  pub links_a : List ℕ
  pub points_a : List (List ℤ)
  pub ox_a : List ℤ
  pub oy_a : List ℤ
  pub of_a : List ℕ
  pub answers_b : List (List Float)
  pub links_b : List ℕ
  pub points_b : List (List ℤ)
  pub ox_b : List ℤ
  pub oy_b : List ℤ
  pub of_b : List ℕ

abbrev pub editions_contour : EditionsGiven → Inputs
editions_contour g = inputs g.xs g.ys g.flags

abbrev pub editions_order : EditionsGiven → Order
editions_order g = order_of g.penalty_a g.penalty_b g.whole_units g.closed

abbrev pub editions_before : EditionsGiven → Rows
editions_before g = record {
  samples = g.samples;
  breaks = g.breaks;
  own_a = record { answers = g.answers_a; links = g.links_a; points = g.points_a; outs = outputs g.ox_a g.oy_a g.of_a };
  own_b = record { answers = g.answers_b; links = g.links_b; points = g.points_b; outs = outputs g.ox_b g.oy_b g.of_b };
}

abbrev pub editions_after : EditionsLeft → Rows
editions_after l = record {
  samples = l.samples;
  breaks = l.breaks;
  own_a = record { answers = l.answers_a; links = l.links_a; points = l.points_a; outs = outputs l.ox_a l.oy_a l.of_a };
  own_b = record { answers = l.answers_b; links = l.links_b; points = l.points_b; outs = outputs l.ox_b l.oy_b l.of_b };
}

-- the promise of the entry of two editions, for what the caller gave
pub record EditionsIs (g : EditionsGiven) (l : EditionsLeft) : Type 0 where
  pub shown : Shown Reports.report (Promise (editions_contour g) (editions_order g) (record { entry = editions_before g; exit = editions_after l })) l.report

-- what the crunch entry's definition gives for each edition, with its own penalty and rows and the shared ones
abbrev pub edition_defined_a : EditionsGiven → Outcome
edition_defined_a g = Crunch.whole_of (editions_contour g) (settings_a (editions_order g)) (rows_a (editions_before g))

abbrev pub edition_defined_b : EditionsGiven → Outcome
edition_defined_b g = Crunch.whole_of (editions_contour g) (settings_b (editions_order g)) (rows_b (editions_before g))

-- the report of a refusal shows its number and nothing else; of points that come out, how many they are, the pairs tried and the lookups that fell
abbrev pub EditionShows : Outcome → EditionReport → Type 0
EditionShows (refused k) r = (r.number ≡ number_of k) × (r.points ≡ 0) × (r.pairs ≡ 0) × (r.fallen ≡ 0)
EditionShows (crunched ps t) r = (r.number ≡ 0) × (r.points ≡ length ps) × (r.pairs ≡ t.pairs) × (r.fallen ≡ t.fallen)

pub record EditionsShow (g : EditionsGiven) (r : EditionsReport) : Type 0 where
  pub a : EditionShows (edition_defined_a g) r.a
  pub b : EditionShows (edition_defined_b g) r.b

-- one order, in rows of equal lengths
pub record EditionsAlike (g g' : EditionsGiven) : Type 0 where
  pub contour : editions_contour g ≡ editions_contour g'
  pub order : editions_order g ≡ editions_order g'
  pub rows : AlikeBoth (editions_before g) (editions_before g')
