-- Laws for callers: a surveyed run has a break, at most 2,048 of them, and their coordinates are doubles; longer rows change no survey but one refused 6
-- or 7. Assumes nothing.
use Rattle.std.specs.Prelude.{ℕ, ◌<◌, ◌≤◌, List, ◌≡◌, T, Float, ℤ, length, take, Option, Some, Result, Ok}
use Rattle.std.proofs.Common.{arith, ap, ◌∙◌}
use Rattle.std.proofs.Math.Path.{refl}
use Rattle.std.specs.Float.{binary64}
use Rattle.std.specs.Float.Ieee.{fits}
use Rattle.refusals.specs.declared.refusal.Refusal.TheVariants.{TooManySamples, TooManyBreaks}
use Rattle.refusals.specs.declared.refusal.Refusal.{Refusal}
use Rattle.breaks.specs.Breaks.{Row, RunBreaks, break_at, breaks_of}
use Rattle.breaks.specs.Breaks as Breaks
use Rattle.breaks.specs.Laws.{found_some, found_few, found_fit, breaks_same}
use Rattle.breaks.specs.declared.Grid.{Grid}
use Rattle.samples.specs.Samples.{Sample, Run, thetas_of, quads_of}
use Rattle.samples.specs.Samples as Samples
use Rattle.samples.specs.Laws.{samples_same}
use Rattle.survey.specs.Survey.{refused, surveyed, sample_room, break_room, searched, after_sampling, survey_of, survey_in}
use Rattle.survey.specs.declared.Surveyed as Y

-- the breaks of a surveyed run are some that were found
record Found (room : ℕ) (g : Grid) (row : Row) : Type 0 where
  samples : List Sample
  len : Float
  found : breaks_of room samples g len ≡ Breaks.breaks row

searched_found : (room : ℕ) (g : Grid) (samples s : List Sample) (len : Float) (row : Row) (x : RunBreaks) → breaks_of room samples g len ≡ x →
    searched samples x ≡ surveyed s row → Found room g row
searched_found room g samples s len row (Breaks.breaks b) e h =
    let same : b ≡ row = cc in
    record { samples = samples; len = len; found = e ∙ ap Breaks.breaks same }
searched_found room g samples s len row (Breaks.refused k) e h = absurd cc
searched_found room g samples s len row Breaks.unchanged e h = absurd cc

sampled_found : (room : ℕ) (g : Grid) (s : List Sample) (row : Row) (x : Run) → after_sampling room g x ≡ surveyed s row → Found room g row
sampled_found room g s row Samples.refused h = absurd cc
sampled_found room g s row (Samples.sampled samples len) h = searched_found room g samples s len row _ refl h

module _ (sampleRow breakRow : ℕ) (xs ys : List ℤ) (fs : List ℕ) (first count : ℕ) (g : Grid) (s : List Sample) (row : Row)
    (e : survey_of sampleRow breakRow xs ys fs first count g ≡ surveyed s row) where
  was : Found (break_room breakRow) g row
  unfolding survey_of
  was = sampled_found (break_room breakRow) g s row (thetas_of (sample_room sampleRow) (quads_of xs ys fs first count)) e

  pub surveyed_some : 0 < length row
  surveyed_some = found_some (break_room breakRow) was.samples g was.len row was.found

  pub surveyed_few : length row ≤ 2048
  surveyed_few = omega (arith, found_few (break_room breakRow) was.samples g was.len row was.found)

  pub surveyed_fit : (i : ℕ) → i < length row → T (fits binary64 (break_at row i).xy.x) × T (fits binary64 (break_at row i).xy.y)
  surveyed_fit = found_fit (break_room breakRow) was.samples g was.len row was.found

-- ---- longer rows

module _ (sampleRow breakRow sampleRow' breakRow' : ℕ) (hs : sampleRow ≤ sampleRow') (hb : breakRow ≤ breakRow') (xs ys : List ℤ) (fs : List ℕ)
    (first count : ℕ) (g : Grid) where
  sampled_same : (x : Run) → thetas_of (sample_room sampleRow) (quads_of xs ys fs first count) ≡ x →
      (after_sampling (break_room breakRow) g x ≡ refused TooManySamples → ⊥) → (after_sampling (break_room breakRow) g x ≡ refused TooManyBreaks → ⊥) →
      after_sampling (break_room breakRow') g (thetas_of (sample_room sampleRow') (quads_of xs ys fs first count)) ≡ after_sampling (break_room breakRow) g x
  sampled_same Samples.refused e six seven = absurd (six refl)
  sampled_same (Samples.sampled samples len) e six seven =
      rw (samples_same (sample_room sampleRow) (sample_room sampleRow') (omega arith) (quads_of xs ys fs first count) samples len e)
      (ap (searched samples) (breaks_same (break_room breakRow) (break_room breakRow') (omega arith) samples g len (λ e. seven (ap (searched samples) e))))

  -- the survey of a run
  pub survey_same : (survey_of sampleRow breakRow xs ys fs first count g ≡ refused TooManySamples → ⊥) →
      (survey_of sampleRow breakRow xs ys fs first count g ≡ refused TooManyBreaks → ⊥) →
      survey_of sampleRow' breakRow' xs ys fs first count g ≡ survey_of sampleRow breakRow xs ys fs first count g
  unfolding survey_of
  survey_same six seven = sampled_same _ refl six seven

-- ---- for those who lend the rows on

-- breaks that a survey found: there are some, at most 2,048, and the first stands on doubles
pub record FoundBreaks (breaks : Row) : Type 0 where
  pub some : 0 < length breaks
  pub few : length breaks ≤ 2048
  pub fit_x : T (fits binary64 (break_at breaks 0).xy.x)
  pub fit_y : T (fits binary64 (break_at breaks 0).xy.y)

pub surveyed_found : (sampleRow breakRow : ℕ) (xs ys : List ℤ) (fs : List ℕ) (first count : ℕ) (g : Grid) (samples : List Sample) (breaks : Row) →
    survey_of sampleRow breakRow xs ys fs first count g ≡ surveyed samples breaks → FoundBreaks breaks
surveyed_found sampleRow breakRow xs ys fs first count g samples breaks e =
    let some = surveyed_some sampleRow breakRow xs ys fs first count g samples breaks e in
    let fit = surveyed_fit sampleRow breakRow xs ys fs first count g samples breaks e 0 some in
    record { some = some; few = surveyed_few sampleRow breakRow xs ys fs first count g samples breaks e; fit_x = fit.0; fit_y = fit.1 }

-- those that a survey left in the first places of a row
pub found_rows : (sampleRow breakRow : ℕ) (xs ys : List ℤ) (fs : List ℕ) (first count : ℕ) (g : Grid) (samples : List Sample) (breaks : Row)
    {n m : ℕ} {r : Result (Option Y.Surveyed) Refusal} →
    survey_of sampleRow breakRow xs ys fs first count g ≡ survey_in samples breaks r → r ≡ Ok (Some (record { samples = n; breaks = m })) → FoundBreaks (take m breaks)
found_rows sampleRow breakRow xs ys fs first count g samples breaks {n} {m} e h =
    surveyed_found sampleRow breakRow xs ys fs first count g (take n samples) (take m breaks) (e ∙ ap (survey_in samples breaks) h)

-- so many samples, or breaks, are in a row that is as long as it was lent
pub in_row : (used : Result (Option Y.Surveyed) Refusal → ℕ) {r s : Result (Option Y.Surveyed) Refusal} {k l : ℕ} → r ≡ s → used r ≤ k → l ≡ k → used s ≤ l
in_row used e h kept = omega (arith, h, ap used e, kept)
