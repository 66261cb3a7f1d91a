-- Calls of fontcrunch_explicit, and what it promises. Definitions and statements; the theorems stand in proofs/Stated/WrittenOut.
use Rattle.std.specs.Prelude.{ℕ, List, ◌≡◌, ℤ, take, Result, Ok, Err}
use Rattle.refusals.specs.Number.{number_of}
use Rattle.refusals.specs.declared.refusal.Refusal.{Refusal}
use Rattle.rows.specs.Lent.{Inputs, inputs, Shown}
use Rattle.contour.specs.Output.{Outputs, outputs}
use Rattle.explicit.specs.Entry.{room_of, whole_of, Promise}
use Rattle.explicit.specs.Determine.{places_of}
use Rattle.exports.specs.WrittenOut as Reports
use Rattle.exports.specs.declared.written_out.ExplicitReport.{ExplicitReport}

pub record ExplicitGiven : Type 0 where
  pub xs : List ℤ
  pub ys : List ℤ
  pub flags : List ℕ
  pub ox : List ℤ
  pub oy : List ℤ
  pub of : List ℕ

pub record ExplicitLeft : Type 0 where
  pub report : ExplicitReport
  pub ox : List ℤ
  pub oy : List ℤ
  pub of : List ℕ

abbrev pub explicit_contour : ExplicitGiven → Inputs
explicit_contour g = inputs g.xs g.ys g.flags

abbrev pub explicit_before : ExplicitGiven → Outputs
explicit_before g = outputs g.ox g.oy g.of

abbrev pub explicit_after : ExplicitLeft → Outputs
explicit_after l = outputs l.ox l.oy l.of

-- the promise of the entry that writes implied points out, for what the caller gave
pub record ExplicitIs (g : ExplicitGiven) (l : ExplicitLeft) : Type 0 where
  pub shown : Shown Reports.report (Promise (explicit_contour g) (record { entry = explicit_before g; exit = explicit_after l })) l.report

-- what the entry's definition gives, for what the caller gave
abbrev pub explicit_defined : ExplicitGiven → Result ℕ Refusal
explicit_defined g = whole_of (explicit_contour g) (room_of (explicit_before g))

-- the report of a refusal shows its number and nothing else; else the points written
abbrev pub ExplicitShows : Result ℕ Refusal → ExplicitReport → Type 0
ExplicitShows (Err k) r = (r.number ≡ number_of k) × (r.points ≡ 0)
ExplicitShows (Ok points) r = (r.number ≡ 0) × (r.points ≡ points)

-- one contour, in rows of equal lengths
pub record ExplicitAlike (g g' : ExplicitGiven) : Type 0 where
  pub contour : explicit_contour g ≡ explicit_contour g'
  pub places : places_of (explicit_before g) ≡ places_of (explicit_before g')

-- the first places, as many as the report says
abbrev pub explicit_written : ExplicitLeft → Outputs
explicit_written l =
    let n = l.report.points in
    outputs (take n l.ox) (take n l.oy) (take n l.of)
