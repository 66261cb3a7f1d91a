-- Calls of fontcrunch_read_glif, fontcrunch_write_glif and fontcrunch_crunch_glif, and what they promise. Definitions and statements; the theorems stand in
-- proofs/Stated/Glif.
use Rattle.std.specs.Prelude.{ℕ, List, ◌≡◌, Float, ℤ, length, Result, Ok, Err}
use Rattle.refusals.specs.Number.{number_of}
use Rattle.refusals.specs.declared.refusal.Refusal.{Refusal}
use denote.Triple.Both.{Both}
use Rattle.rows.specs.Rows.{work}
use Rattle.rows.specs.Lent.{Shown}
use Rattle.settings.specs.Settings.{settings_of}
use Rattle.settings.specs.declared.Settings.{Settings}
use Rattle.glifread.specs.Enter.{rows, filled}
use Rattle.glifread.specs.Reads.{Kept, kept, rooms_of, answer_by}
use Rattle.glifread.specs.Entry as Reading
use Rattle.glifread.specs.declared.read.Counts.{Counts}
use Rattle.glifwrite.specs.Writes.{GivenRows, given, answer_of}
use Rattle.glifwrite.specs.Entry as Writing
use Rattle.glifs.specs.Glifs.{shown_of}
use Rattle.glifs.specs.Entry as Crunching
use Rattle.exports.specs.Glif.{read_report, write_report}
use Rattle.exports.specs.declared.glif_files.GlifReadReport.{GlifReadReport}
use Rattle.exports.specs.declared.glif_files.GlifWriteReport.{GlifWriteReport}

-- ---- fontcrunch_read_glif

pub record ReadGlifGiven : Type 0 where
  pub bytes : List ℕ
  pub ends : List ℕ
  pub xs : List ℤ
  pub ys : List ℤ
  pub flags : List ℕ
  pub points : List (List ℕ)

pub record ReadGlifLeft : Type 0 where
  pub report : GlifReadReport
  pub ends : List ℕ
  pub xs : List ℤ
  pub ys : List ℤ
  pub flags : List ℕ
  pub points : List (List ℕ)

abbrev pub read_glif_before : ReadGlifGiven → Kept
read_glif_before g = kept (filled g.ends (rows g.xs g.ys g.flags)) g.points

abbrev pub read_glif_rows : ReadGlifGiven → ReadGlifLeft → Both Kept Kept
read_glif_rows g l = record { entry = read_glif_before g; exit = kept (filled l.ends (rows l.xs l.ys l.flags)) l.points }

-- the reader's promise, for what the caller gave
pub record ReadGlifIs (g : ReadGlifGiven) (l : ReadGlifLeft) : Type 0 where
  pub shown : Shown read_report (Reading.Promise g.bytes (read_glif_rows g l)) l.report

-- what the reader's definition answers, for what the caller gave
abbrev pub read_glif_defined : ReadGlifGiven → Result Counts Refusal
read_glif_defined g = answer_by (Reading.judged_in g.bytes (rooms_of (read_glif_before g))) (rooms_of (read_glif_before g))

-- the report of a refusal shows its number and nothing else; else how many contours and points there are
abbrev pub ReadGlifShows : Result Counts Refusal → GlifReadReport → Type 0
ReadGlifShows (Err k) r = (r.number ≡ number_of k) × (r.contours ≡ 0) × (r.points ≡ 0)
ReadGlifShows (Ok c) r = (r.number ≡ 0) × (r.contours ≡ c.contours) × (r.points ≡ c.points)

-- one file, in rows of equal lengths
pub record ReadGlifAlike (g g' : ReadGlifGiven) : Type 0 where
  pub bytes : g.bytes ≡ g'.bytes
  pub rooms : rooms_of (read_glif_before g) ≡ rooms_of (read_glif_before g')

-- ---- fontcrunch_write_glif

pub record WriteGlifGiven : Type 0 where
  pub bytes : List ℕ
  pub ends : List ℕ
  pub xs : List ℤ
  pub ys : List ℤ
  pub flags : List ℕ
  pub out : List ℕ

pub record WriteGlifLeft : Type 0 where
  pub report : GlifWriteReport
  pub out : List ℕ

abbrev pub write_glif_rows : WriteGlifGiven → GivenRows
write_glif_rows g = given g.ends g.xs g.ys g.flags

abbrev pub write_glif_row : WriteGlifGiven → WriteGlifLeft → Both (List ℕ) (List ℕ)
write_glif_row g l = record { entry = g.out; exit = l.out }

-- the writer's promise, for what the caller gave
pub record WriteGlifIs (g : WriteGlifGiven) (l : WriteGlifLeft) : Type 0 where
  pub shown : Shown write_report (Writing.Promise g.bytes (write_glif_rows g) (write_glif_row g l)) l.report

-- what the writer's definition answers, for what the caller gave
abbrev pub write_glif_defined : WriteGlifGiven → Result ℕ Refusal
write_glif_defined g = answer_of g.bytes (write_glif_rows g) (length g.out)

-- the report of a refusal shows its number and nothing else; else how many bytes are written, of a file that is written or crunched
abbrev pub GlifBytesShow : Result ℕ Refusal → GlifWriteReport → Type 0
GlifBytesShow (Err k) r = (r.number ≡ number_of k) × (r.bytes ≡ 0)
GlifBytesShow (Ok n) r = (r.number ≡ 0) × (r.bytes ≡ n)

-- one file and one glyph, in rows of equal length
pub record WriteGlifAlike (g g' : WriteGlifGiven) : Type 0 where
  pub bytes : g.bytes ≡ g'.bytes
  pub rows : write_glif_rows g ≡ write_glif_rows g'
  pub room : length g.out ≡ length g'.out

-- ---- fontcrunch_crunch_glif

pub record CrunchGlifGiven : Type 0 where
  pub bytes : List ℕ
  pub penalty : ℕ
  pub whole_units : ℕ
  pub closed : ℕ
  pub out : List ℕ
  pub ends : List ℕ
  pub xs : List ℤ
  pub ys : List ℤ
  pub flags : List ℕ
  pub marks : List (List ℕ)
  pub samples : List (List Float)
  pub breaks : List (List Float)
  pub answers : List (List Float)
  pub links : List ℕ
  pub points : List (List ℤ)

pub record CrunchGlifLeft : Type 0 where
  pub report : GlifWriteReport
  pub out : List ℕ
  pub ends : List ℕ
  pub xs : List ℤ
  pub ys : List ℤ
  pub flags : List ℕ
  pub marks : List (List ℕ)
  pub samples : List (List Float)
  pub breaks : List (List Float)
  pub answers : List (List Float)
  pub links : List ℕ
  pub points : List (List ℤ)

abbrev pub crunch_glif_settings : CrunchGlifGiven → Settings
crunch_glif_settings g = settings_of g.penalty g.whole_units g.closed

abbrev pub crunch_glif_before : CrunchGlifGiven → Crunching.Rows
crunch_glif_before g = record {
  out = g.out;
  read = kept (filled g.ends (rows g.xs g.ys g.flags)) g.marks;
  work = work g.samples g.breaks g.answers g.links;
  points = g.points;
}

abbrev pub crunch_glif_after : CrunchGlifLeft → Crunching.Rows
crunch_glif_after l = record {
  out = l.out;
  read = kept (filled l.ends (rows l.xs l.ys l.flags)) l.marks;
  work = work l.samples l.breaks l.answers l.links;
  points = l.points;
}

abbrev pub crunch_glif_rows : CrunchGlifGiven → CrunchGlifLeft → Crunching.LentRows
crunch_glif_rows g l = record { entry = crunch_glif_before g; exit = crunch_glif_after l }

-- the promise of the entry that crunches a file, for what the caller gave
pub record CrunchGlifIs (g : CrunchGlifGiven) (l : CrunchGlifLeft) : Type 0 where
  pub shown : Shown write_report (Crunching.Promise g.bytes (crunch_glif_settings g) (crunch_glif_rows g l)) l.report

-- what the definition of crunching a file answers, for what the caller gave
abbrev pub crunch_glif_defined : CrunchGlifGiven → Result ℕ Refusal
crunch_glif_defined g = shown_of g.bytes (length g.out) (Crunching.whole_of g.bytes (crunch_glif_settings g) (crunch_glif_before g))

-- one order, in rows of equal lengths
pub record CrunchGlifAlike (g g' : CrunchGlifGiven) : Type 0 where
  pub bytes : g.bytes ≡ g'.bytes
  pub settings : crunch_glif_settings g ≡ crunch_glif_settings g'
  pub rooms : Crunching.rooms_of (crunch_glif_before g) ≡ Crunching.rooms_of (crunch_glif_before g')
