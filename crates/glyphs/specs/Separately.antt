-- A glyph that is crunched, contour by contour: the statements. Proofs are in proofs/Separately.antt and Some.antt. Definitions only.
use Rattle.std.specs.Prelude.{ℕ, ◌-◌, List, [], ◌∷◌, map, ◌≡◌, ℤ, length}
use Rattle.refusals.specs.declared.refusal.Refusal.TheVariants.{TooLarge}
use Rattle.refusals.specs.declared.refusal.Refusal.{Refusal}
use Rattle.rows.specs.Lent.{Inputs, inputs}
use Rattle.settings.specs.declared.Settings.{Settings}
use Rattle.contour.specs.Points.{Points}
use Rattle.contour.specs.Output.{column, flags}
use Rattle.optimize.specs.declared.Tally.{Tally}
use Rattle.edition.specs.Edition as Edition
use Rattle.crunch.specs.Crunch.{crunched, crunch_of}
use Rattle.crunch.specs.Crunch as Crunch
use Rattle.glyf.specs.Layout.{Glyph, done, refused, refuse, described, read_of, too_large, bytes_of, fitting, written_of}
use Rattle.glyphs.specs.Glyphs.{Rooms, point_room, contours_of, glyph_of, crunch_glyph_of}

module _ (rooms : Edition.Rooms) (settings : Settings) where
  -- contour k of the one list is what the crunch entry's definition gives for contour k of the other, in the places that those before it left
  pub data Each : ℕ → List Inputs → List Points → Type 0 where
    none : {room : ℕ} → Each room [] []
    next : {room : ℕ} {tally : Tally} {xs ys : List ℤ} {fs : List ℕ} {ps : Points} {contours : List Inputs} {more : List Points} →
        crunch_of rooms room settings xs ys fs ≡ crunched ps tally → Each (room - length ps) contours more → Each room (inputs xs ys fs ∷ contours) (ps ∷ more)

  -- the first contour that is refused is refused by k
  pub data FirstRefused (k : Refusal) : ℕ → List Inputs → Type 0 where
    here : {room : ℕ} {xs ys : List ℤ} {fs : List ℕ} {contours : List Inputs} →
        crunch_of rooms room settings xs ys fs ≡ Crunch.refused k → FirstRefused k room (inputs xs ys fs ∷ contours)
    later : {room : ℕ} {tally : Tally} {xs ys : List ℤ} {fs : List ℕ} {ps : Points} {contours : List Inputs} →
        crunch_of rooms room settings xs ys fs ≡ crunched ps tally → FirstRefused k (room - length ps) contours →
        FirstRefused k room (inputs xs ys fs ∷ contours)

-- points as a contour in three rows
abbrev pub contour_of : Points → Inputs
contour_of ps = inputs (column 0 ps) (column 1 ps) (flags ps)

-- the bytes written say a glyph whose contours are the crunched contours of the glyph read, with its instructions
pub record ContourByContour (r : Rooms) (settings : Settings) (bytes bytes' : List ℕ) : Type 0 where
  pub old : Glyph
  pub read : described bytes ≡ done old
  pub new : Glyph
  pub written : written_of r.out new ≡ done bytes'
  pub says : described bytes' ≡ done new
  pub contours : List Points
  pub each : Each r.work settings (point_room r) (contours_of old) contours
  pub are : contours_of new ≡ map contour_of contours
  pub instructions : new.instructions ≡ old.instructions

abbrev pub WrittenByContours : Type 0
WrittenByContours =
    (r : Rooms) (settings : Settings) (bytes bytes' : List ℕ) → crunch_glyph_of r settings bytes ≡ done bytes' → ContourByContour r settings bytes bytes'

-- where none is refused, the new glyph is refused by 14 or for want of room alone: its rows are even, it has as many points as the last end says, and
-- its ends rise
abbrev pub OnlyTooLarge : Type 0
OnlyTooLarge =
    (rooms : Edition.Rooms) (settings : Settings) (room : ℕ) (olds : List Inputs) (news : List Points) → Each rooms settings room olds news →
    (out : ℕ) (instructions : List ℕ) → let new = glyph_of news instructions in written_of out new ≡ refuse TooLarge (too_large new) (fitting out (bytes_of new))

-- the first contour that is refused refuses the glyph by its number
abbrev pub RefusedByFirst : Type 0
RefusedByFirst =
    (r : Rooms) (settings : Settings) (bytes : List ℕ) (g : Glyph) (k : Refusal) → read_of r.read bytes ≡ done g →
    FirstRefused r.work settings k (point_room r) (contours_of g) → crunch_glyph_of r settings bytes ≡ refused k
