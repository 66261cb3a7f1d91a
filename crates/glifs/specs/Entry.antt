-- What `crunch_glif` promises, of any bytes, settings and rows. Definitions only.
use Rattle.std.specs.Prelude.{ℕ, List, ◌≡◌, ℤ, length, replicate, Result}
use Rattle.refusals.specs.declared.refusal.Refusal.{Refusal}
use denote.Triple.Both.{Both}
use Rattle.rows.specs.Rows.{Work, point_zero}
use Rattle.rows.specs.Lent.{Lent, before, after}
use Rattle.settings.specs.declared.Settings.{Settings}
use Rattle.contour.specs.Points.{Points}
use Rattle.edition.specs.Scratch.{Scratch, cleared}
use Rattle.edition.specs.Scratch as Scratch
use Rattle.glyf.specs.Layout.{Outcome}
use Rattle.glifread.specs.Enter.{no_place}
use Rattle.glifread.specs.Reads.{Kept, kept, scratch_room}
use Rattle.glifread.specs.Reads as Reads
use Rattle.glifwrite.specs.Writes.{GivenRows}
use Rattle.glifs.specs.Glifs.{Rooms, zero_in, crunch_glif_of, shown_of, left_of}

-- the row of bytes out, the rows that a file is read into, the rows that a run is worked in, and the row for points
pub record Rows : Type 0 where
  pub out : List ℕ
  pub read : Kept
  pub work : Work
  pub points : Points

abbrev pub LentRows : Type 0
LentRows = Both Rows Rows

abbrev pub rows : Lent ℕ → Both Kept Kept → Scratch → Lent (List ℤ) → LentRows
rows out read work points = record {
  entry = record { out = before out; read = read.entry; work = work.entry; points = before points };
  exit = record { out = after out; read = read.exit; work = work.exit; points = after points };
}

abbrev pub rooms_of : Rows → Rooms
rooms_of t = record { out = length t.out; read = Reads.rooms_of t.read; work = Scratch.rooms_of t.work; points = length t.points }

-- the whole of a file
abbrev pub whole_of : List ℕ → Settings → Rows → Outcome GivenRows
whole_of bytes settings t = crunch_glif_of (rooms_of t) settings bytes

-- rows of so many places, zero throughout
abbrev pub zero_kept : Reads.Rooms → Kept
zero_kept n = kept (zero_in n) (replicate (scratch_room n) no_place)

-- the answer; the row of bytes, with the new file at its front, or, where refused, what it held; and that every scratch row is zero throughout,
-- whatever it held: the rows that a file is read into are such rows here
pub record Promise (bytes : List ℕ) (settings : Settings) (t : LentRows) (r : Result ℕ Refusal) : Type 0 where
  pub answer : r ≡ shown_of bytes (length t.entry.out) (whole_of bytes settings t.entry)
  pub out : t.exit.out ≡ left_of bytes (whole_of bytes settings t.entry) t.entry.out
  pub read : t.exit.read ≡ zero_kept (Reads.rooms_of t.entry.read)
  pub work : t.exit.work ≡ cleared t.entry.work
  pub points : t.exit.points ≡ replicate (length t.entry.points) point_zero
