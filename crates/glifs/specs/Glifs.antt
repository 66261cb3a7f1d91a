-- The whole: what becomes of a file. It is read, each contour is crunched by the crunch entry's own definition, in order, and what they became takes
-- their places in the file. Definitions only.
use Rattle.std.specs.Prelude.{ℕ, Bool, not, ◌&&◌, List, eqb, pos, length, take, replicate, Result, Ok, Err}
use Rattle.refusals.specs.declared.refusal.Refusal.{Refusal}
use Rattle.refusals.specs.declared.refusal.Refusal.TheVariants.{UnevenRows}
use Rattle.settings.specs.declared.Settings.{Settings}
use Rattle.contour.specs.Points.{Points}
use Rattle.contour.specs.Output.{column, flags}
use Rattle.edition.specs.Edition as Edition
use Rattle.glyf.specs.Layout.{Outcome, done, refused, refuse, count_of, rising}
use Rattle.glyphs.specs.Glyphs.{and_then, contours_from, least_of, crunch_rows, together, ends_from}
use Rattle.glifread.specs.Enter.{Filled, filled, rows}
use Rattle.glifread.specs.Reads.{rooms, answer_by, enters_by}
use Rattle.glifread.specs.Reads as Reads
use Rattle.glifread.specs.Entry.{judged_in}
use Rattle.glifread.specs.declared.read.Counts.{Counts}
use Rattle.glifwrite.specs.Writes.{GivenRows, given, answer_of, left_in}

-- ---- reading, into rows that are zero

abbrev pub zero_rows : (ends xs ys flags : ℕ) → Filled
zero_rows ends xs ys flags = filled (replicate ends 0) (rows (replicate xs (pos 0)) (replicate ys (pos 0)) (replicate flags 0))

abbrev pub zero_in : Reads.Rooms → Filled
zero_in (rooms ends xs ys flags points) = zero_rows ends xs ys flags

-- so many contours and points in the first places
abbrev pub first_of : ℕ → ℕ → Filled → GivenRows
first_of contours count (filled ends (rows xs ys fs)) = given (take contours ends) (take count xs) (take count ys) (take count fs)

abbrev pub found_by : Result Counts Refusal → Filled → Outcome GivenRows
found_by (Ok c) f = done (first_of c.contours c.points f)
found_by (Err k) f = refused k

abbrev pub read_of : Reads.Rooms → List ℕ → Outcome GivenRows
read_of n bytes = found_by (answer_by (judged_in bytes n) n) (enters_by (judged_in bytes n) n (zero_in n))

-- ---- crunching

-- the ends rise, and the last of them says so many points
unfoldable pub belong : List ℕ → ℕ → Bool
belong ends count = rising ends && eqb count (count_of ends)

abbrev pub given_of : List Points → GivenRows
given_of contours = let ps = together contours in given (ends_from 0 contours) (column 0 ps) (column 1 ps) (flags ps)

-- what becomes of contours that were read, with rows of so many places for x, y, flags and points. The reader's rows belong together (`ReadBelongs` of
-- Separately): that is tested all the same, and 1 is never given for it
abbrev pub renewed_of : Edition.Rooms → Settings → (xs ys flags points : ℕ) → GivenRows → Outcome GivenRows
renewed_of work settings nx ny nf np (given ends xs ys fs) =
    refuse UnevenRows (not (belong ends (length xs)))
    (and_then (crunch_rows work settings (least_of nx ny nf np) (contours_from 0 ends xs ys fs)) (λ contours. done (given_of contours)))

-- ---- the whole

-- the places lent: for the bytes out, for what is read, for the work on a run, and for points
pub record Rooms : Type 0 where
  pub out : ℕ
  pub read : Reads.Rooms
  pub work : Edition.Rooms
  pub points : ℕ

abbrev pub renewed_in : Reads.Rooms → Edition.Rooms → Settings → ℕ → GivenRows → Outcome GivenRows
renewed_in (rooms ends xs ys flags marks) work settings points g = renewed_of work settings xs ys flags points g

-- the rows that are to be written into the file, or a refusal
unfoldable pub crunch_glif_of : Rooms → Settings → List ℕ → Outcome GivenRows
crunch_glif_of r settings bytes = and_then (read_of r.read bytes) (renewed_in r.read r.work settings r.points)

-- ---- what is answered, and what the row of bytes holds

abbrev pub shown_of : List ℕ → ℕ → Outcome GivenRows → Result ℕ Refusal
shown_of bytes room (done g) = answer_of bytes g room
shown_of bytes room (refused k) = Err k

abbrev pub left_of : List ℕ → Outcome GivenRows → List ℕ → List ℕ
left_of bytes (done g) out = left_in bytes g (length out) out
left_of bytes (refused k) out = out
