-- From entry to entry: the row that `write_glyph` filled, whatever lies after the description in it, given to `read_glyph`, says the glyph. The statement; its proof
-- is in proofs/Handed. Definitions only.
use Rattle.std.specs.Prelude.{ℕ, false, ◌≡◌, length, Result, Ok}
use Rattle.refusals.specs.declared.refusal.Refusal.{Refusal}
use denote.Triple.Both.{Both}
use Rattle.rows.specs.Lent.{Lent, after}
use Rattle.glyf.specs.Layout.{Glyph, laid_in, rooms_of, too_small, trimmed}
use Rattle.glyf.specs.Trips.{Held, as_read}
use Rattle.glyfread.specs.Entry as Read
use Rattle.glyfread.specs.declared.read.Counts.{Counts}
use Rattle.glyfwrite.specs.Entry as Write

-- the glyph comes back: its ends, its points up to the last end, flags 1 or 0, and its instructions, each at the front of its row
pub record HandedBack (g : Glyph) (w : Both Glyph Glyph) (r : Result Counts Refusal) : Type 0 where
  pub answer : r ≡ Ok (record { contours = length g.ends; points = length (as_read (trimmed g)).flags; instructions = length g.instructions })
  pub left : w.exit ≡ laid_in (as_read (trimmed g)) w.entry

-- where the writer answers with so many bytes, and the reader's rows are long enough; coordinates are of 16 bits, as rows of i16 hold them
abbrev pub FilledRowReadBack : Type 0
FilledRowReadBack =
    (g : Glyph) (out : Lent ℕ) (n : ℕ) (w : Both Glyph Glyph) (r : Result Counts Refusal) → Held g → Write.Promise g out (Ok n) → Read.Promise (after out) w r →
    too_small (rooms_of w.entry) (as_read (trimmed g)) ≡ false → HandedBack g w r
