-- The whole: what becomes of a glyph description. It is read, each contour is crunched by the crunch entry's own definition, in order, and what they
-- became is written, with the instructions as they came. Definitions only.
use Rattle.std.specs.Prelude.{ℕ, ◌+◌, ◌-◌, min, not, List, [], ◌∷◌, ◌++◌, ltb, ℤ, length, take, drop}
use Rattle.refusals.specs.declared.refusal.Refusal.TheVariants.{TooLarge, NoSuchPenalty}
use Rattle.rows.specs.Lent.{Inputs, inputs}
use Rattle.settings.specs.Settings.{settings_fine}
use Rattle.settings.specs.declared.Settings.{Settings}
use Rattle.contour.specs.Points.{Points}
use Rattle.contour.specs.Output.{column, flags}
use Rattle.edition.specs.Edition as Edition
use Rattle.crunch.specs.Crunch.{crunch_of}
use Rattle.crunch.specs.Crunch as Crunch
use Rattle.glyf.specs.Layout.{Glyph, glyph, Outcome, done, refused, refuse, read_of, written_of}
use Rattle.glyf.specs.Layout as Layout

-- a refusal is the answer; else what follows
abbrev pub and_then : {A B : Type 0} → Outcome A → (A → Outcome B) → Outcome B
and_then (done a) later = later a
and_then (refused k) later = refused k

-- ---- the contours of a glyph: from the point after the last end to this end

abbrev pub stretch : {A : Type 0} → ℕ → ℕ → List A → List A
stretch from to row = take (to - from) (drop from row)

unfoldable pub contours_from : ℕ → List ℕ → List ℤ → List ℤ → List ℕ → List Inputs
contours_from from [] xs ys fs = []
contours_from from (end ∷ ends) xs ys fs =
    inputs (stretch from (end + 1) xs) (stretch from (end + 1) ys) (stretch from (end + 1) fs) ∷ contours_from (end + 1) ends xs ys fs

abbrev pub contours_of : Glyph → List Inputs
contours_of g = contours_from 0 g.ends g.xs g.ys g.flags

-- ---- each is crunched, into the places that those before it left

abbrev pub with_first : Points → Outcome (List Points) → Outcome (List Points)
with_first ps others = and_then others (λ more. done (ps ∷ more))

abbrev pub onward : ℕ → Crunch.Outcome → (ℕ → Outcome (List Points)) → Outcome (List Points)
onward room (Crunch.refused k) later = refused k
onward room (Crunch.crunched ps tally) later = with_first ps (later (room - length ps))

-- the points of each contour, or why the first that is refused is
unfoldable pub crunch_each : Edition.Rooms → Settings → ℕ → List Inputs → Outcome (List Points)
crunch_each rooms settings room [] = done []
crunch_each rooms settings room (inputs xs ys fs ∷ contours) =
    onward room (crunch_of rooms room settings xs ys fs) (λ left. crunch_each rooms settings left contours)

-- ---- the new glyph

unfoldable pub together : List Points → Points
together [] = []
together (ps ∷ more) = ps ++ together more

-- the number of each contour's last point, after so many points
unfoldable pub ends_from : ℕ → List Points → List ℕ
ends_from at [] = []
ends_from at (ps ∷ more) = (at + length ps - 1) ∷ ends_from (at + length ps) more

abbrev pub glyph_of : List Points → List ℕ → Glyph
glyph_of contours instructions =
    let ps = together contours in
    glyph (ends_from 0 contours) (column 0 ps) (column 1 ps) (flags ps) instructions

-- ---- the whole

-- the places lent: for the bytes out, for what is read, for the work on a run, and for points
pub record Rooms : Type 0 where
  pub out : ℕ
  pub read : Layout.Rooms
  pub work : Edition.Rooms
  pub points : ℕ

-- the new points pass through the rows that the old ones were read into: as many places as the shortest of these and the row for points
abbrev pub least_of : (xs ys flags points : ℕ) → ℕ
least_of xs ys flags points = min (min xs ys) (min flags points)

abbrev pub point_room : Rooms → ℕ
point_room r = least_of r.read.xs r.read.ys r.read.flags r.points

-- 16, which a contour has met if there is one; 14, more points than an end can number
abbrev pub numbered : Settings → List Points → Outcome (List Points)
numbered settings contours =
    refuse NoSuchPenalty (not (settings_fine settings))
    (refuse TooLarge (ltb 65536 (length (together contours)))
    (done contours))

-- the contours of rows, each crunched
abbrev pub crunch_rows : Edition.Rooms → Settings → ℕ → List Inputs → Outcome (List Points)
crunch_rows rooms settings room contours = and_then (crunch_each rooms settings room contours) (numbered settings)

-- 16 and 14, then those of writing
abbrev pub rewritten : Settings → ℕ → List ℕ → List Points → Outcome (List ℕ)
rewritten settings out instructions contours =
    refuse NoSuchPenalty (not (settings_fine settings))
    (refuse TooLarge (ltb 65536 (length (together contours)))
    (written_of out (glyph_of contours instructions)))

-- what becomes of a glyph that was read
abbrev pub crunched_of : Rooms → Settings → Glyph → Outcome (List ℕ)
crunched_of r settings g = and_then (crunch_each r.work settings (point_room r) (contours_of g)) (rewritten settings r.out g.instructions)

unfoldable pub crunch_glyph_of : Rooms → Settings → List ℕ → Outcome (List ℕ)
crunch_glyph_of r settings bytes = and_then (read_of r.read bytes) (crunched_of r settings)
