-- What the chain entry's breaks carry, as a type; the theorem `breaks_carry` of proofs/Own is of it. Statements only.
use Rattle.std.specs.Prelude.{ℕ, ◌≤◌, ◌<◌, List, ◌≡◌, ℤ, length, Some}
use Rattle.breaks.specs.Breaks.{Row, break_at}
use Rattle.outline.specs.Segments.{count_of}
use Rattle.runs.specs.Runs.{numbered_run}
use Rattle.edition.specs.Edition.{Rooms}
use Rattle.samples.specs.Samples.{Sample}
use Rattle.segments.specs.Segments.{ends_of, segment_of, segment_at}
use Rattle.settings.specs.Settings.{grid_of}
use Rattle.settings.specs.declared.Settings.{Settings}
use Rattle.survey.specs.Survey.{surveyed, survey_of}
use Rattle.chains.specs.Spans.{breaks_at}

-- the breaks of run k, which has `count` segments from segment `first` on and for which a survey found `breaks`
pub record Carries (rooms : Rooms) (settings : Settings) (xs ys : List ℤ) (fs : List ℕ) (k first count : ℕ) (breaks : Row) : Type 0 where
  -- as many; each with the length, place and direction that the optimiser worked with
  pub many : length (breaks_at rooms settings xs ys fs k) ≡ length breaks
  pub same : (i : ℕ) → i < length breaks → break_at (breaks_at rooms settings xs ys fs k) i ≡ break_at breaks i
  -- and, of a contour that is let through, with the segment that holds its own length
  pub own : length fs ≤ 1024 → (i : ℕ) → i < length breaks →
      segment_at (breaks_at rooms settings xs ys fs k) i ≡ segment_of (ends_of xs ys fs first count) first (count_of fs) (break_at breaks i).s

abbrev pub BreaksCarrySegments : Type 0
BreaksCarrySegments =
    (rooms : Rooms) (settings : Settings) (xs ys : List ℤ) (fs : List ℕ) (k first count : ℕ) (samples : List Sample) (breaks : Row) →
    numbered_run settings.closed xs ys fs k ≡ Some (record { first = first; count = count }) →
    survey_of rooms.samples rooms.breaks xs ys fs first count (grid_of settings) ≡ surveyed samples breaks →
    Carries rooms settings xs ys fs k first count breaks
