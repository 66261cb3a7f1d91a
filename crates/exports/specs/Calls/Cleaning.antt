-- Calls of fontcrunch_clean and fontcrunch_put_back, and what they promise. Definitions and statements; the theorems stand in proofs/Stated/Cleaning.
use Rattle.std.specs.Prelude.{ℕ, List, ◌≡◌, ℤ, length, take, Result, Ok, Err}
use Rattle.refusals.specs.Number.{number_of}
use Rattle.refusals.specs.declared.refusal.Refusal.{Refusal}
use Rattle.rows.specs.Lent.{Inputs, inputs, Shown}
use Rattle.contour.specs.Output.{Outputs, outputs}
use Rattle.clean.specs.Clean.{Cleaning}
use Rattle.clean.specs.Entry.{Rows, rows, list_room, point_room, judged_of, after_judging, answer_in, cleaning_of, Sifts}
use Rattle.clean.specs.Entry.{output_room, restored_of, spots_for, Restores}
use Rattle.clean.specs.Determine.{places_of, point_places}
use Rattle.clean.specs.declared.Cleaned as C
use Rattle.exports.specs.Cleaning as Reports
use Rattle.exports.specs.declared.cleaning.CleanReport.{CleanReport}
use Rattle.exports.specs.declared.cleaning.PutReport.{PutReport}

-- ---- fontcrunch_clean

pub record CleanGiven : Type 0 where
  pub xs : List ℤ
  pub ys : List ℤ
  pub flags : List ℕ
  pub ox : List ℤ
  pub oy : List ℤ
  pub of : List ℕ
  pub list : List (List ℕ)

pub record CleanLeft : Type 0 where
  pub report : CleanReport
  pub ox : List ℤ
  pub oy : List ℤ
  pub of : List ℕ
  pub list : List (List ℕ)

abbrev pub clean_contour : CleanGiven → Inputs
clean_contour g = inputs g.xs g.ys g.flags

abbrev pub clean_before : CleanGiven → Rows
clean_before g = rows (outputs g.ox g.oy g.of) g.list

abbrev pub clean_after : CleanLeft → Rows
clean_after l = rows (outputs l.ox l.oy l.of) l.list

-- the promise of an entry that keeps and lists by a rule, for what the caller gave
pub record SiftIs (show : Result C.Cleaned Refusal → CleanReport) (rule : Inputs → Cleaning) (g : CleanGiven) (l : CleanLeft) : Type 0 where
  pub shown :
      Shown show (Sifts (clean_contour g) (rule (clean_contour g)) (record { entry = clean_before g; exit = clean_after l })) l.report

-- the cleaning entry's
abbrev pub CleanIs : CleanGiven → CleanLeft → Type 0
CleanIs g l = SiftIs Reports.report cleaning_of g l

-- what the definition of such an entry gives, for what the caller gave
abbrev pub sift_defined : (Inputs → Cleaning) → CleanGiven → Result C.Cleaned Refusal
sift_defined rule g =
    after_judging (judged_of (clean_contour g)) (answer_in (list_room (clean_before g)) (point_room (clean_before g)) (rule (clean_contour g)))

-- the cleaning entry's
abbrev pub clean_defined : CleanGiven → Result C.Cleaned Refusal
clean_defined g = sift_defined cleaning_of g

-- the report of a refusal shows its number and nothing else; else the points kept and those dropped
abbrev pub CleanShows : Result C.Cleaned Refusal → CleanReport → Type 0
CleanShows (Err k) r = (r.number ≡ number_of k) × (r.kept ≡ 0) × (r.dropped ≡ 0)
CleanShows (Ok c) r = (r.number ≡ 0) × (r.kept ≡ c.kept) × (r.dropped ≡ c.dropped)

-- one contour, in rows of equal lengths
pub record CleanAlike (g g' : CleanGiven) : Type 0 where
  pub contour : clean_contour g ≡ clean_contour g'
  pub places : places_of (clean_before g) ≡ places_of (clean_before g')

-- the first places, as many as the report says
abbrev pub clean_written : CleanLeft → Rows
clean_written l =
    let n = l.report.kept in
    rows (outputs (take n l.ox) (take n l.oy) (take n l.of)) (take l.report.dropped l.list)

-- ---- fontcrunch_put_back

pub record PutGiven : Type 0 where
  pub xs : List ℤ
  pub ys : List ℤ
  pub flags : List ℕ
  pub list : List (List ℕ)
  pub ox : List ℤ
  pub oy : List ℤ
  pub of : List ℕ

pub record PutLeft : Type 0 where
  pub report : PutReport
  pub ox : List ℤ
  pub oy : List ℤ
  pub of : List ℕ

abbrev pub put_contour : PutGiven → Inputs
put_contour g = inputs g.xs g.ys g.flags

abbrev pub put_before : PutGiven → Outputs
put_before g = outputs g.ox g.oy g.of

abbrev pub put_after : PutLeft → Outputs
put_after l = outputs l.ox l.oy l.of

-- the promise of an entry that puts back by a rule, for what the caller gave
pub record RestoreIs (show : Result ℕ Refusal → PutReport) (rule : Inputs → List (List ℕ) → List (List ℕ)) (g : PutGiven) (l : PutLeft) : Type 0 where
  pub shown :
      Shown show
      (Restores (put_contour g) (length g.list) (rule (put_contour g) g.list) (record { entry = put_before g; exit = put_after l }))
      l.report

-- that of the entry that puts back what was cleaned
abbrev pub PutIs : PutGiven → PutLeft → Type 0
PutIs g l = RestoreIs Reports.put_report spots_for g l

-- what the definition of putting back gives, for what the caller gave
abbrev pub put_defined : PutGiven → Result ℕ Refusal
put_defined g = restored_of (put_contour g) (length g.list) (output_room (put_before g))

-- the report of a refusal shows its number and nothing else; else the points written
abbrev pub PutShows : Result ℕ Refusal → PutReport → Type 0
PutShows (Err k) r = (r.number ≡ number_of k) × (r.points ≡ 0)
PutShows (Ok points) r = (r.number ≡ 0) × (r.points ≡ points)

pub record PutAlike (g g' : PutGiven) : Type 0 where
  pub contour : put_contour g ≡ put_contour g'
  pub list : g.list ≡ g'.list
  pub places : point_places (put_before g) ≡ point_places (put_before g')

abbrev pub put_written : PutLeft → Outputs
put_written l =
    let n = l.report.points in
    outputs (take n l.ox) (take n l.oy) (take n l.of)
