-- Which segments the pieces of a chain replace, document 02's W8, as types; the theorems `breaks_in_run` and `spans_rise` of proofs/Replaced are of them.
-- That the last break carries the run's last segment is not among them: docs/DECISIONS.md has a run where it does not. Statements only.
use Rattle.std.specs.Prelude.{ℕ, ◌+◌, ◌-◌, ◌≤◌, ◌<◌, true, List, [], ◌∷◌, ◌≡◌, ℤ, length, Some}
use Rattle.breaks.specs.Breaks.{Row, break_at}
use Rattle.chain.specs.Valid.{joined}
use Rattle.chain.specs.declared.Piece.{Piece}
use Rattle.outline.specs.Segments.{count_of}
use Rattle.runs.specs.Runs.{numbered_run}
use Rattle.edition.specs.Edition.{Rooms}
use Rattle.samples.specs.Samples.{Sample}
use Rattle.segments.specs.Segments.{ends_of, place_in, number_of, segment_at}
use Rattle.settings.specs.Settings.{grid_of}
use Rattle.settings.specs.declared.Settings.{Settings}
use Rattle.survey.specs.Survey.{surveyed, survey_of}
use Rattle.survey.specs.Never.{Sixteen}
use Rattle.chains.specs.Spans.{breaks_at}

-- the breaks of a run of `count` segments from segment `first` on
module _ (xs ys : List ℤ) (fs : List ℕ) (first count : ℕ) (breaks : Row) where
  -- the place in the run of the segment that holds break i, the run's first segment being at place 0
  abbrev pub place_of : ℕ → ℕ
  place_of i = place_in (ends_of xs ys fs first count) (break_at breaks i).s

-- run k, for which a survey found `breaks`
pub record InRun (rooms : Rooms) (settings : Settings) (xs ys : List ℤ) (fs : List ℕ) (k first count : ℕ) (breaks : Row) : Type 0 where
  -- each break carries a segment of the run
  pub inside : (i : ℕ) → i < length breaks → place_of xs ys fs first count breaks i < count
  -- by its number in the contour, which has such a segment
  pub named : length fs ≤ 1024 → (i : ℕ) → i < length breaks →
      segment_at (breaks_at rooms settings xs ys fs k) i ≡ number_of (count_of fs) (first + place_of xs ys fs first count breaks i)
  pub below : length fs ≤ 1024 → (i : ℕ) → i < length breaks → segment_at (breaks_at rooms settings xs ys fs k) i < count_of fs
  -- a later break carries no earlier segment
  pub rise : (i j : ℕ) → i ≤ j → j < length breaks → place_of xs ys fs first count breaks i ≤ place_of xs ys fs first count breaks j

abbrev pub BreaksInRun : Type 0
BreaksInRun =
    (rooms : Rooms) (settings : Settings) (xs ys : List ℤ) (fs : List ℕ) (k first count : ℕ) (samples : List Sample) (breaks : Row) → Sixteen xs → Sixteen ys →
    numbered_run settings.closed xs ys fs k ≡ Some (record { first = first; count = count }) →
    survey_of rooms.samples rooms.breaks xs ys fs first count (grid_of settings) ≡ surveyed samples breaks →
    InRun rooms settings xs ys fs k first count breaks

-- along a chain: each piece starts in the segment where the one before it ended, and ends in it or in a later one
pub data Rising (place : ℕ → ℕ) : ℕ → List Piece → Type 0 where
  none : {at : ℕ} → Rising place at []
  next : {at : ℕ} {p : Piece} {ps : List Piece} → place p.from ≡ at → at ≤ place p.to → Rising place (place p.to) ps → Rising place at (p ∷ ps)

-- of every chain that leads from the first break to the last, as those do that the checker accepts
abbrev pub SpansRise : Type 0
SpansRise =
    (rooms : Rooms) (settings : Settings) (xs ys : List ℤ) (fs : List ℕ) (k first count : ℕ) (samples : List Sample) (breaks : Row) → Sixteen xs → Sixteen ys →
    numbered_run settings.closed xs ys fs k ≡ Some (record { first = first; count = count }) →
    survey_of rooms.samples rooms.breaks xs ys fs first count (grid_of settings) ≡ surveyed samples breaks → 0 < length breaks →
    (ps : List Piece) → joined (length breaks - 1) ps ≡ true → Rising (place_of xs ys fs first count breaks) (place_of xs ys fs first count breaks 0) ps
