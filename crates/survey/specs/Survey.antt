-- One run surveyed: its samples, then its breaks, each with its room. Definitions only.
use Rattle.std.specs.Prelude.{ℕ, min, List, ℤ, take, Option, Some, None, Result, Ok, Err}
use Rattle.refusals.specs.declared.refusal.Refusal.TheVariants.{TooManySamples}
use Rattle.refusals.specs.declared.refusal.Refusal.{Refusal}
use Rattle.breaks.specs.Breaks.{Row, RunBreaks, breaks_of}
use Rattle.breaks.specs.Breaks as Breaks
use Rattle.breaks.specs.declared.Grid.{Grid}
use Rattle.samples.specs.Samples.{Sample, Run, thetas_of, quads_of}
use Rattle.samples.specs.Samples as Samples
use Rattle.survey.specs.declared.Surveyed as S

-- the least of 16,384 and the sample row
abbrev pub sample_room : ℕ → ℕ
sample_room row = min 16384 row

-- the least of 2,048 and the break row
abbrev pub break_room : ℕ → ℕ
break_room row = min 2048 row

-- the samples and the breaks; a refusal; or a length past the samples, which leaves the contour unchanged
pub data Survey : Type 0 where
  refused : Refusal → Survey
  past : Survey
  surveyed : List Sample → Row → Survey

abbrev pub searched : List Sample → RunBreaks → Survey
searched samples (Breaks.breaks row) = surveyed samples row
searched samples (Breaks.refused k) = refused k
searched samples Breaks.unchanged = past

abbrev pub after_sampling : ℕ → Grid → Run → Survey
after_sampling room g Samples.refused = refused TooManySamples
after_sampling room g (Samples.sampled samples len) = searched samples (breaks_of room samples g len)

-- of the run of `count` segments from segment `first` on, in rows of so many places
unfoldable pub survey_of : ℕ → ℕ → List ℤ → List ℤ → List ℕ → ℕ → ℕ → Grid → Survey
survey_of sampleRow breakRow xs ys fs first count g =
    after_sampling (break_room breakRow) g (thetas_of (sample_room sampleRow) (quads_of xs ys fs first count))

-- ---- what the functions leave in the rows

abbrev pub survey_in : List Sample → Row → Result (Option S.Surveyed) Refusal → Survey
survey_in samples breaks (Err k) = refused k
survey_in samples breaks (Ok None) = past
survey_in samples breaks (Ok (Some s)) = surveyed (take s.samples samples) (take s.breaks breaks)

abbrev pub samples_used : Result (Option S.Surveyed) Refusal → ℕ
samples_used (Err k) = 0
samples_used (Ok None) = 0
samples_used (Ok (Some s)) = s.samples

abbrev pub breaks_used : Result (Option S.Surveyed) Refusal → ℕ
breaks_used (Err k) = 0
breaks_used (Ok None) = 0
breaks_used (Ok (Some s)) = s.breaks
