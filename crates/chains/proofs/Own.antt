-- The statement of specs/Own: the chain entry's breaks are those of the run's survey, each with the segment that holds its own length. No proof of a function
-- uses it. Assumes nothing.
use Rattle.std.specs.Prelude.{Some}
use mathlib.Core.List.{List}
use mathlib.Core.Path.{◌≡◌, refl, ap, ◌∙◌}
use Prim.Native.Nat.{ℕ}
use lib.IntN.{ℤ}
use lib.ListN.{length}
use Rattle.breaks.specs.Breaks.{Row, break_at}
use Rattle.runs.specs.Runs.{numbered_run}
use Rattle.runs.proofs.Few.{run_few}
use Rattle.edition.specs.Edition.{Rooms}
use Rattle.samples.specs.Samples.{Sample}
use Rattle.segments.specs.Laws.{carried_many, same_break, carries}
use Rattle.segments.specs.Segments.{carried, segment_at}
use Rattle.settings.specs.Settings.{grid_of}
use Rattle.settings.specs.declared.Settings.{Settings}
use Rattle.survey.specs.Survey.{Survey, surveyed, survey_of}
use Rattle.chains.specs.Spans.{row_of, breaks_of, breaks_at}
use Rattle.chains.specs.Own.{BreaksCarrySegments}

-- the run's breaks, each with its segment
carried_are : (rooms : Rooms) (settings : Settings) (xs ys : List ℤ) (fs : List ℕ) (k first count : ℕ) (samples : List Sample) (breaks : Row) →
    numbered_run settings.closed xs ys fs k ≡ Some (record { first = first; count = count }) →
    survey_of rooms.samples rooms.breaks xs ys fs first count (grid_of settings) ≡ surveyed samples breaks →
    breaks_at rooms settings xs ys fs k ≡ carried xs ys fs first count breaks
carried_are rooms settings xs ys fs k first count samples breaks run survey =
    ap (breaks_of rooms settings xs ys fs) run ∙ ap (λ (s : Survey). carried xs ys fs first count (row_of s)) survey

pub breaks_carry : BreaksCarrySegments
breaks_carry rooms settings xs ys fs k first count samples breaks run survey =
    let are = carried_are rooms settings xs ys fs k first count samples breaks run survey in
    record {
      many = ap length are ∙ carried_many xs ys fs first count breaks;
      same = λ i h. ap (λ (row : Row). break_at row i) are ∙ same_break xs ys fs first count breaks i h;
      own = λ few i h.
          let low = run_few settings.closed xs ys fs k {r = numbered_run settings.closed xs ys fs k} few refl run in
          ap (λ (row : Row). segment_at row i) are ∙ carries xs ys fs first count breaks i h low.0 low.1;
    }
