-- A file that is crunched, contour by contour: the statements. Proofs are in proofs/Separately.antt and proofs/Rising.antt. Definitions only.
use Rattle.std.specs.Prelude.{ℕ, ◌≤◌, true, List, ◌≡◌, ℤ, length}
use Rattle.refusals.specs.declared.refusal.Refusal.{Refusal}
use Rattle.rows.specs.Lent.{Inputs}
use Rattle.settings.specs.declared.Settings.{Settings}
use Rattle.contour.specs.Points.{Points}
use Rattle.glyf.specs.Layout.{done, refused}
use Rattle.glyphs.specs.Glyphs.{contours_from, least_of, together}
use Rattle.glyphs.specs.Separately.{Each, FirstRefused}
use Rattle.glifread.specs.Reads.{rooms}
use Rattle.glifread.specs.Reads as Reads
use Rattle.glifwrite.specs.Writes.{GivenRows, given}
use Rattle.glifs.specs.Glifs.{Rooms, read_of, belong, given_of, crunch_glif_of}

abbrev pub contours_of : GivenRows → List Inputs
contours_of (given ends xs ys fs) = contours_from 0 ends xs ys fs

abbrev pub point_room : Reads.Rooms → ℕ → ℕ
point_room (rooms ends xs ys flags marks) points = least_of xs ys flags points

-- the rows written into the file are the contours that were read from it, each crunched by the crunch entry's own definition; no more points than ends can tell
pub record ContourByContour (r : Rooms) (settings : Settings) (bytes : List ℕ) (g : GivenRows) : Type 0 where
  pub old : GivenRows
  pub read : read_of r.read bytes ≡ done old
  pub contours : List Points
  pub each : Each r.work settings (point_room r.read r.points) (contours_of old) contours
  pub are : g ≡ given_of contours
  pub few : length (together contours) ≤ 65536

abbrev pub WrittenByContours : Type 0
WrittenByContours =
    (r : Rooms) (settings : Settings) (bytes : List ℕ) (g : GivenRows) → crunch_glif_of r settings bytes ≡ done g → ContourByContour r settings bytes g

-- the rows that are read belong together: the ends rise, and the last of them is that of the last point
abbrev pub ReadBelongs : Type 0
ReadBelongs =
    (n : Reads.Rooms) (bytes ends : List ℕ) (xs ys : List ℤ) (fs : List ℕ) → read_of n bytes ≡ done (given ends xs ys fs) → belong ends (length xs) ≡ true

-- the first contour that is refused refuses the file for the same reason
abbrev pub RefusedByFirst : Type 0
RefusedByFirst =
    (r : Rooms) (settings : Settings) (bytes : List ℕ) (ends : List ℕ) (xs ys : List ℤ) (fs : List ℕ) (k : Refusal) →
    read_of r.read bytes ≡ done (given ends xs ys fs) →
    FirstRefused r.work settings k (point_room r.read r.points) (contours_from 0 ends xs ys fs) → crunch_glif_of r settings bytes ≡ refused k
