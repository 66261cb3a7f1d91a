-- The breaks of a run lie along it, each farther on than those before it, as types; the theorems stand in proofs/Along.antt. Statements only.
use Rattle.std.specs.Prelude.{ℕ, ◌<◌, List, ◌≡◌, T, ℤ, length}
use Rattle.std.specs.Float.Ieee.{le}
use Rattle.breaks.specs.Breaks.{Row, break_at}
use Rattle.breaks.specs.declared.Grid.{Grid}
use Rattle.samples.specs.Samples.{Sample}
use Rattle.survey.specs.Survey.{surveyed, survey_of}
use Rattle.survey.specs.Never.{Sixteen}

-- of two breaks the later one's length is no less
abbrev pub LengthsRise : Type 0
LengthsRise =
    (sampleRow breakRow : ℕ) (xs ys : List ℤ) (fs : List ℕ) (first count : ℕ) (g : Grid) (samples : List Sample) (breaks : Row) → Sixteen xs → Sixteen ys →
    survey_of sampleRow breakRow xs ys fs first count g ≡ surveyed samples breaks →
    (i j : ℕ) → i < j → j < length breaks → T (le (break_at breaks i).s (break_at breaks j).s)
