-- What cannot happen in a run of a contour in 16 bits that is not given 6: a length past its samples, and an 8 while its breaks are found; and when it is
-- given 7. The theorems, `finds_breaks`, `finds_exactly`, `answered` and `never_past`, stand in proofs/Never.antt. Definitions only.
use Rattle.std.specs.Prelude.{ℕ, suc, ◌^◌, ◌≤◌, ◌<◌, List, ◌≡◌, ℤ, pos, Float, length, get_or}
use Rattle.std.specs.Int.Signed.{mag}
use Rattle.refusals.specs.declared.refusal.Refusal.TheVariants.{TooManySamples, TooManyBreaks, PastLastSample}
use Rattle.breaks.specs.Breaks.{Row, places_of, breaks_of}
use Rattle.breaks.specs.Breaks as Breaks
use Rattle.breaks.specs.declared.Grid.{Grid}
use Rattle.samples.specs.Samples.{Sample, thetas_of, quads_of}
use Rattle.samples.specs.Samples as Samples
use Rattle.survey.specs.Survey.{Survey, refused, past, surveyed, sample_room, break_room, survey_of}

-- every coordinate has 16 bits: from -2 ^ 15 to 2 ^ 15 - 1
abbrev pub Sixteen : List ℤ → Type 0
Sixteen row = (i : ℕ) → i < length row → mag (get_or row i (pos 0)) < 2 ^ 15

-- over the samples of a run, `find_breaks` finds no length past them, and no place at the last of them
abbrev pub FindsBreaks : Type 0
FindsBreaks =
    (sampleRow breakRow : ℕ) (xs ys : List ℤ) (fs : List ℕ) (first count : ℕ) (g : Grid) (samples : List Sample) (len : Float) → Sixteen xs → Sixteen ys →
    thetas_of (sample_room sampleRow) (quads_of xs ys fs first count) ≡ Samples.sampled samples len →
    (breaks_of (break_room breakRow) samples g len ≡ Breaks.unchanged → ⊥) × (breaks_of (break_room breakRow) samples g len ≡ Breaks.refused PastLastSample → ⊥)

-- ---- how many breaks

-- all breaks of a sampled run: they are no more than the places 0 to n
abbrev pub all_breaks : List Sample → Grid → Float → Breaks.RunBreaks
all_breaks samples g len = breaks_of (suc (places_of len)) samples g len

-- with another room there are these, or they are more than it takes: 7
pub record Finds (room : ℕ) (samples : List Sample) (g : Grid) (len : Float) : Type 0 where
  pub row : Row
  pub all : all_breaks samples g len ≡ Breaks.breaks row
  pub fits : length row ≤ room → breaks_of room samples g len ≡ Breaks.breaks row
  pub short : room < length row → breaks_of room samples g len ≡ Breaks.refused TooManyBreaks

abbrev pub FindsExactly : Type 0
FindsExactly =
    (sampleRow room : ℕ) (xs ys : List ℤ) (fs : List ℕ) (first count : ℕ) (g : Grid) (samples : List Sample) (len : Float) → Sixteen xs → Sixteen ys →
    thetas_of (sample_room sampleRow) (quads_of xs ys fs first count) ≡ Samples.sampled samples len → Finds room samples g len

-- ---- the answers that are left to a survey

pub data Answered : Survey → Type 0 where
  six : Answered (refused TooManySamples)
  seven : Answered (refused TooManyBreaks)
  found : (samples : List Sample) (row : Row) → Answered (surveyed samples row)

abbrev pub AlwaysAnswered : Type 0
AlwaysAnswered =
    (sampleRow breakRow : ℕ) (xs ys : List ℤ) (fs : List ℕ) (first count : ℕ) (g : Grid) → Sixteen xs → Sixteen ys →
    Answered (survey_of sampleRow breakRow xs ys fs first count g)

-- so no length past the samples, and no 8
abbrev pub NeverPast : Type 0
NeverPast =
    (sampleRow breakRow : ℕ) (xs ys : List ℤ) (fs : List ℕ) (first count : ℕ) (g : Grid) → Sixteen xs → Sixteen ys →
    (survey_of sampleRow breakRow xs ys fs first count g ≡ past → ⊥) × (survey_of sampleRow breakRow xs ys fs first count g ≡ refused PastLastSample → ⊥)
