-- What is written of a contour, for a reader: where it starts, that it can come back, and that no implied half point is written. Each statement is a type
-- here, and a theorem of proofs/Written is of that type: `first_point`, `comes_back`, `outline_written`, `no_half_point_written`. Statements only.
use Rattle.std.specs.Prelude.{ℕ, true, List, [], ◌∷◌, ◌≡◌, ℤ, take, Result, Err}
use Rattle.refusals.specs.Refusals.{judged}
use Rattle.refusals.specs.declared.refusal.Refusal.TheVariants.{UnevenRows, NoPoint, StartsOffCurve}
use Rattle.refusals.specs.declared.refusal.Refusal.{Refusal}
use Rattle.outline.specs.Segments.{start_of}
use Rattle.runs.specs.Runs.{corner_list}
use Rattle.settings.specs.declared.Settings.{Settings}
use Rattle.optimize.specs.declared.Tally.{Tally}
use Rattle.edition.specs.Edition.{Rooms}
use Rattle.contour.specs.Points.{Points, point_as, start_point, unchanged_in}
use Rattle.contour.specs.Output.{column, flags}
use Rattle.contour.specs.Unchanged.{as_uploaded}
use Rattle.contour.specs.Kept.{StartsOn, outline_of, WholeIfOff, Neighbours}
use Rattle.assembly.specs.Assembly.{State, ended, going, crunch_runs}
use Rattle.crunch.specs.Crunch.{crunched, crunch_of}

-- of every contour that is not refused, whatever the rooms and settings: P of the settings, the contour, the state in which the work ends, and the points
abbrev pub Always : (Settings → List ℤ → List ℤ → List ℕ → State → Points → Type 0) → Type 0
Always P =
    (rooms : Rooms) (room : ℕ) (settings : Settings) (xs ys : List ℤ) (fs : List ℕ) (ps : Points) (tally : Tally) →
    crunch_of rooms room settings xs ys fs ≡ crunched ps tally → P settings xs ys fs (crunch_runs rooms settings xs ys fs) ps

-- ---- where it starts, in closed mode

-- a contour that stays unchanged starts as its upload does, any other at the point of its first corner
pub data StartsAt (xs ys : List ℤ) (fs : List ℕ) (ps : Points) : State → Type 0 where
  the_corner : {row : Points} {t : Tally} (a : ℕ) (corners : List ℕ) → corner_list xs ys fs ≡ a ∷ corners →
      take 1 ps ≡ point_as true xs ys (start_of fs a) ∷ [] → StartsAt xs ys fs ps (going row t)
  the_upload : {t : Tally} → take 1 ps ≡ start_point xs ys ∷ [] → StartsAt xs ys fs ps (ended (unchanged_in xs ys fs true) t)

abbrev pub FirstPoint : Type 0
FirstPoint = Always (λ settings xs ys fs s ps. settings.closed ≡ true → StartsAt xs ys fs ps s)

-- ---- it can come back: in either mode it starts on-curve, and fed back it is refused by none of 1, 2 and 4

abbrev pub judged_again : Points → Result Unit Refusal
judged_again ps = judged (column 0 ps) (column 1 ps) (flags ps)

pub record CanComeBack (ps : Points) : Type 0 where
  pub starts : StartsOn ps
  pub not_one : judged_again ps ≡ Err UnevenRows → ⊥
  pub not_two : judged_again ps ≡ Err NoPoint → ⊥
  pub not_four : judged_again ps ≡ Err StartsOffCurve → ⊥

abbrev pub ComesBack : Type 0
ComesBack = Always (λ settings xs ys fs s ps. CanComeBack ps)

-- ---- in closed mode the points written have the outline of the row of pieces; where the contour stays unchanged that is the upload's

pub data OutlineIs (xs ys : List ℤ) (fs : List ℕ) (ps : Points) : State → Type 0 where
  the_pieces : {row : Points} {t : Tally} → outline_of ps ≡ outline_of row → OutlineIs xs ys fs ps (going row t)
  the_upload : {row : Points} {t : Tally} → outline_of ps ≡ outline_of (as_uploaded xs ys fs) → OutlineIs xs ys fs ps (ended row t)

abbrev pub OutlineWritten : Type 0
OutlineWritten = Always (λ settings xs ys fs s ps. settings.closed ≡ true → OutlineIs xs ys fs ps s)

-- ---- in closed mode, on either grid, no implied half point: of any two off-curve neighbours, going round, the midpoint is on whole units

abbrev pub NoHalfPointWritten : Type 0
NoHalfPointWritten = Always (λ settings xs ys fs s ps. settings.closed ≡ true → Neighbours WholeIfOff ps)
