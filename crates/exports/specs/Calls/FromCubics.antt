-- Calls of fontcrunch_from_cubics, and what it promises. Definitions and statements; the theorems stand in proofs/Stated/FromCubics.
use Rattle.std.specs.Prelude.{ℕ, List, ◌≡◌, ℤ, take, Result, Ok, Err}
use Rattle.refusals.specs.Number.{number_of}
use Rattle.refusals.specs.declared.refusal.Refusal.{Refusal}
use Rattle.rows.specs.Lent.{Inputs, inputs, Shown}
use Rattle.contour.specs.Output.{Outputs, outputs}
use Rattle.cubics.specs.Entry.{room_of, whole_of, Promise}
use Rattle.cubics.specs.Determine.{places_of}
use Rattle.exports.specs.FromCubics as Reports
use Rattle.exports.specs.declared.from_cubics.CubicReport.{CubicReport}

pub record CubicGiven : Type 0 where
  pub xs : List ℤ
  pub ys : List ℤ
  pub flags : List ℕ
  pub ox : List ℤ
  pub oy : List ℤ
  pub of : List ℕ

pub record CubicLeft : Type 0 where
  pub report : CubicReport
  pub ox : List ℤ
  pub oy : List ℤ
  pub of : List ℕ

abbrev pub cubic_contour : CubicGiven → Inputs
cubic_contour g = inputs g.xs g.ys g.flags

abbrev pub cubic_before : CubicGiven → Outputs
cubic_before g = outputs g.ox g.oy g.of

abbrev pub cubic_after : CubicLeft → Outputs
cubic_after l = outputs l.ox l.oy l.of

-- the promise of the entry that makes quads of cubics, for what the caller gave
pub record CubicIs (g : CubicGiven) (l : CubicLeft) : Type 0 where
  pub shown : Shown Reports.report (Promise (cubic_contour g) (record { entry = cubic_before g; exit = cubic_after l })) l.report

-- what the entry's definition gives, for what the caller gave
abbrev pub cubic_defined : CubicGiven → Result ℕ Refusal
cubic_defined g = whole_of (cubic_contour g) (room_of (cubic_before g))

-- the report of a refusal shows its number and nothing else; else the points written
abbrev pub CubicShows : Result ℕ Refusal → CubicReport → Type 0
CubicShows (Err k) r = (r.number ≡ number_of k) × (r.points ≡ 0)
CubicShows (Ok points) r = (r.number ≡ 0) × (r.points ≡ points)

-- one contour, in rows of equal lengths
pub record CubicAlike (g g' : CubicGiven) : Type 0 where
  pub contour : cubic_contour g ≡ cubic_contour g'
  pub places : places_of (cubic_before g) ≡ places_of (cubic_before g')

-- the first places, as many as the report says
abbrev pub cubic_written : CubicLeft → Outputs
cubic_written l =
    let n = l.report.points in
    outputs (take n l.ox) (take n l.oy) (take n l.of)
