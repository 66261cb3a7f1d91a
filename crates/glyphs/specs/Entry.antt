-- What `crunch_glyph` promises, of any bytes, settings and rows. Definitions only.
use Rattle.std.specs.Prelude.{ℕ, List, ◌≡◌, ℤ, pos, length, replicate, Result}
use Rattle.refusals.specs.declared.refusal.Refusal.{Refusal}
use denote.Triple.Both.{Both}
use Rattle.rows.specs.Rows.{Work, point_zero}
use Rattle.rows.specs.Lent.{Lent, before, after}
use Rattle.settings.specs.declared.Settings.{Settings}
use Rattle.contour.specs.Points.{Points}
use Rattle.edition.specs.Scratch.{Scratch, cleared}
use Rattle.edition.specs.Scratch as Scratch
use Rattle.glyf.specs.Layout.{Glyph, glyph, Outcome, laid, left_by}
use Rattle.glyf.specs.Layout as Layout
use Rattle.glyfwrite.specs.Writes.{answer_of}
use Rattle.glyphs.specs.Glyphs.{Rooms, crunch_glyph_of}

-- the row of bytes out, the rows that a glyph is read into, the rows that a run is worked in, and the row for points
pub record Rows : Type 0 where
  pub out : List ℕ
  pub read : Glyph
  pub work : Work
  pub points : Points

abbrev pub LentRows : Type 0
LentRows = Both Rows Rows

abbrev pub rows : Lent ℕ → Both Glyph Glyph → Scratch → Lent (List ℤ) → LentRows
rows out read work points = record {
  entry = record { out = before out; read = read.entry; work = work.entry; points = before points };
  exit = record { out = after out; read = read.exit; work = work.exit; points = after points };
}

abbrev pub rooms_of : Rows → Rooms
rooms_of t = record { out = length t.out; read = Layout.rooms_of t.read; work = Scratch.rooms_of t.work; points = length t.points }

-- the whole of a description
abbrev pub whole_of : List ℕ → Settings → Rows → Outcome (List ℕ)
whole_of bytes settings t = crunch_glyph_of (rooms_of t) settings bytes

-- rows of so many places, zero throughout
abbrev pub zero_glyph : Layout.Rooms → Glyph
zero_glyph r =
    glyph (replicate r.ends 0) (replicate r.xs (pos 0)) (replicate r.ys (pos 0)) (replicate r.flags 0) (replicate r.instructions 0)

-- the answer; the row of bytes, with the new description at its front, or, where refused, what it held; and that every scratch row is zero
-- throughout, whatever it held: the rows that a glyph is read into are such rows here
pub record Promise (bytes : List ℕ) (settings : Settings) (t : LentRows) (r : Result ℕ Refusal) : Type 0 where
  pub answer : r ≡ answer_of (whole_of bytes settings t.entry)
  pub out : t.exit.out ≡ left_by laid (whole_of bytes settings t.entry) t.entry.out
  pub read : t.exit.read ≡ zero_glyph (Layout.rooms_of t.entry.read)
  pub work : t.exit.work ≡ cleared t.entry.work
  pub points : t.exit.points ≡ replicate (length t.entry.points) point_zero
