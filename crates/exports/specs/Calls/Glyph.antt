-- Calls of fontcrunch_read_glyph, fontcrunch_write_glyph and fontcrunch_crunch_glyph, and what they promise. Definitions and statements; the theorems stand
-- in proofs/Stated/Glyph.
use Rattle.std.specs.Prelude.{ℕ, List, ◌≡◌, Float, ℤ, length}
use denote.Triple.Both.{Both}
use Rattle.refusals.specs.Number.{number_of}
use Rattle.rows.specs.Rows.{work}
use Rattle.rows.specs.Lent.{Lent, Shown}
use Rattle.settings.specs.Settings.{settings_of}
use Rattle.settings.specs.declared.Settings.{Settings}
use Rattle.glyf.specs.Layout.{Glyph, glyph, rooms_of, Outcome, done, refused, read_of, written_of}
use Rattle.glyfread.specs.Entry as Reading
use Rattle.glyfwrite.specs.Entry as Writing
use Rattle.glyphs.specs.Entry as Crunching
use Rattle.exports.specs.Glyph.{read_report, write_report}
use Rattle.exports.specs.declared.glyph.GlyphReadReport.{GlyphReadReport}
use Rattle.exports.specs.declared.glyph.GlyphWriteReport.{GlyphWriteReport}

-- ---- fontcrunch_read_glyph

pub record ReadGlyphGiven : Type 0 where
  pub bytes : List ℕ
  pub ends : List ℕ
  pub xs : List ℤ
  pub ys : List ℤ
  pub flags : List ℕ
  pub instructions : List ℕ

pub record ReadGlyphLeft : Type 0 where
  pub report : GlyphReadReport
  pub ends : List ℕ
  pub xs : List ℤ
  pub ys : List ℤ
  pub flags : List ℕ
  pub instructions : List ℕ

abbrev pub read_glyph_rows : ReadGlyphGiven → ReadGlyphLeft → Both Glyph Glyph
read_glyph_rows g l = record {
  entry = glyph g.ends g.xs g.ys g.flags g.instructions;
  exit = glyph l.ends l.xs l.ys l.flags l.instructions;
}

-- the reader's promise, for what the caller gave
pub record ReadGlyphIs (g : ReadGlyphGiven) (l : ReadGlyphLeft) : Type 0 where
  pub shown : Shown read_report (Reading.Promise g.bytes (read_glyph_rows g l)) l.report

-- what the reader's definition gives, for what the caller gave
abbrev pub read_glyph_defined : ReadGlyphGiven → Outcome Glyph
read_glyph_defined g = read_of (rooms_of (glyph g.ends g.xs g.ys g.flags g.instructions)) g.bytes

-- the report of a refusal shows its number and nothing else; else how many contours, points and instruction bytes there are
abbrev pub ReadGlyphShows : Outcome Glyph → GlyphReadReport → Type 0
ReadGlyphShows (refused k) r = (r.number ≡ number_of k) × (r.contours ≡ 0) × (r.points ≡ 0) × (r.instructions ≡ 0)
ReadGlyphShows (done g) r =
    (r.number ≡ 0) × (r.contours ≡ length g.ends) × (r.points ≡ length g.flags) × (r.instructions ≡ length g.instructions)

-- one description, in rows of equal lengths
pub record ReadGlyphAlike (g g' : ReadGlyphGiven) : Type 0 where
  pub bytes : g.bytes ≡ g'.bytes
  pub rooms : rooms_of (glyph g.ends g.xs g.ys g.flags g.instructions)
      ≡ rooms_of (glyph g'.ends g'.xs g'.ys g'.flags g'.instructions)

-- ---- fontcrunch_write_glyph

pub record WriteGlyphGiven : Type 0 where
  pub ends : List ℕ
  pub xs : List ℤ
  pub ys : List ℤ
  pub flags : List ℕ
  pub instructions : List ℕ
  pub out : List ℕ

pub record WriteGlyphLeft : Type 0 where
  pub report : GlyphWriteReport
  pub out : List ℕ

abbrev pub write_glyph_glyph : WriteGlyphGiven → Glyph
write_glyph_glyph g = glyph g.ends g.xs g.ys g.flags g.instructions

-- the row, lent and handed back; the promise does not look at where it stands, nor under which name its value is tracked
abbrev pub write_glyph_row : WriteGlyphGiven → WriteGlyphLeft → Lent ℕ
write_glyph_row g l = record {
  entry = record { ref_ptr = (0, 0); ghost_name = 0; now = g.out };
  exit = record { ref_ptr = (0, 0); ghost_name = 0; now = l.out };
}

-- the writer's promise, for what the caller gave
pub record WriteGlyphIs (g : WriteGlyphGiven) (l : WriteGlyphLeft) : Type 0 where
  pub shown : Shown write_report (Writing.Promise (write_glyph_glyph g) (write_glyph_row g l)) l.report

-- what the writer's definition gives, for what the caller gave
abbrev pub write_glyph_defined : WriteGlyphGiven → Outcome (List ℕ)
write_glyph_defined g = written_of (length g.out) (write_glyph_glyph g)

-- the report of a refusal shows its number and nothing else; else how many bytes are written, of a glyph that is written or crunched
abbrev pub GlyphBytesShow : Outcome (List ℕ) → GlyphWriteReport → Type 0
GlyphBytesShow (refused k) r = (r.number ≡ number_of k) × (r.bytes ≡ 0)
GlyphBytesShow (done bytes) r = (r.number ≡ 0) × (r.bytes ≡ length bytes)

-- one glyph, in rows of equal length
pub record WriteGlyphAlike (g g' : WriteGlyphGiven) : Type 0 where
  pub glyph : write_glyph_glyph g ≡ write_glyph_glyph g'
  pub room : length g.out ≡ length g'.out

-- ---- fontcrunch_crunch_glyph

pub record CrunchGlyphGiven : Type 0 where
  pub bytes : List ℕ
  pub penalty : ℕ
  pub whole_units : ℕ
  pub closed : ℕ
  pub out : List ℕ
  pub ends : List ℕ
  pub xs : List ℤ
  pub ys : List ℤ
  pub flags : List ℕ
  pub instructions : List ℕ
  pub samples : List (List Float)
  pub breaks : List (List Float)
  pub answers : List (List Float)
  pub links : List ℕ
  pub points : List (List ℤ)

pub record CrunchGlyphLeft : Type 0 where
  pub report : GlyphWriteReport
  pub out : List ℕ
  pub ends : List ℕ
  pub xs : List ℤ
  pub ys : List ℤ
  pub flags : List ℕ
  pub instructions : List ℕ
  pub samples : List (List Float)
  pub breaks : List (List Float)
  pub answers : List (List Float)
  pub links : List ℕ
  pub points : List (List ℤ)

abbrev pub crunch_glyph_settings : CrunchGlyphGiven → Settings
crunch_glyph_settings g = settings_of g.penalty g.whole_units g.closed

abbrev pub crunch_glyph_before : CrunchGlyphGiven → Crunching.Rows
crunch_glyph_before g = record {
  out = g.out;
  read = glyph g.ends g.xs g.ys g.flags g.instructions;
  work = work g.samples g.breaks g.answers g.links;
  points = g.points;
}

abbrev pub crunch_glyph_after : CrunchGlyphLeft → Crunching.Rows
crunch_glyph_after l = record {
  out = l.out;
  read = glyph l.ends l.xs l.ys l.flags l.instructions;
  work = work l.samples l.breaks l.answers l.links;
  points = l.points;
}

abbrev pub crunch_glyph_rows : CrunchGlyphGiven → CrunchGlyphLeft → Crunching.LentRows
crunch_glyph_rows g l = record { entry = crunch_glyph_before g; exit = crunch_glyph_after l }

-- the promise of the entry that crunches a description, for what the caller gave
pub record CrunchGlyphIs (g : CrunchGlyphGiven) (l : CrunchGlyphLeft) : Type 0 where
  pub shown : Shown write_report (Crunching.Promise g.bytes (crunch_glyph_settings g) (crunch_glyph_rows g l)) l.report

-- what the definition of crunching a description gives, for what the caller gave
abbrev pub crunch_glyph_defined : CrunchGlyphGiven → Outcome (List ℕ)
crunch_glyph_defined g = Crunching.whole_of g.bytes (crunch_glyph_settings g) (crunch_glyph_before g)

-- one order, in rows of equal lengths
pub record CrunchGlyphAlike (g g' : CrunchGlyphGiven) : Type 0 where
  pub bytes : g.bytes ≡ g'.bytes
  pub settings : crunch_glyph_settings g ≡ crunch_glyph_settings g'
  pub rooms : Crunching.rooms_of (crunch_glyph_before g) ≡ Crunching.rooms_of (crunch_glyph_before g')
