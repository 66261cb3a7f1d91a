-- What the checker says, of what its steps hand on. Assumes nothing.
use Rattle.std.specs.Prelude.{Option, Result}
use Rattle.refusals.specs.declared.refusal.Refusal.{Refusal}
use Prim.Native.Nat.{ℕ, min, ◌/◌}
use mathlib.Core.List.{List}
use mathlib.Core.Path.{◌≡◌, refl, sym, ap, ◌∙◌}
use lib.Ieee.{Float}
use lib.IntN.{ℤ}
use lib.ListN.{length}
use Rattle.breaks.specs.Breaks.{Row}
use Rattle.breaks.specs.declared.Grid.{Grid}
use Rattle.samples.specs.Samples.{Sample}
use Rattle.runs.specs.Runs.{numbered_run}
use Rattle.settings.specs.Settings.{judged_for}
use Rattle.settings.specs.declared.Settings.{Settings}
use Rattle.survey.specs.Survey.{survey_of, survey_in}
use Rattle.survey.specs.declared.Surveyed as Y
use Rattle.rows.specs.Rows.{work}
use Rattle.rows.specs.Lent.{inputs}
use Rattle.checks.specs.Checks.{GivenChain, of_run, after_judging, check_of}
use Rattle.checks.specs.Entry.{whole_of}
use Rattle.checks.specs.declared.Ruling.{Ruling}

-- ---- a run, of its survey

pub survey_is : (sampleRow breakRow : ℕ) (xs ys : List ℤ) (fs : List ℕ) (first count : ℕ) (samples : List Sample) (breaks : Row) {g h : Grid} {r s : Result (Option Y.Surveyed) Refusal} → g ≡ h →
    survey_of sampleRow breakRow xs ys fs first count g ≡ survey_in samples breaks r → r ≡ s → survey_in samples breaks s ≡ survey_of sampleRow breakRow xs ys fs first count h
survey_is sampleRow breakRow xs ys fs first count samples breaks grid e is =
    ap (survey_in samples breaks) (sym is) ∙ sym e ∙ ap (survey_of sampleRow breakRow xs ys fs first count) grid

-- ---- the entry

module _ (xs ys : List ℤ) (fs : List ℕ) (k : ℕ) (settings : Settings) (c : GivenChain) (s b a : List (List Float)) (l : List ℕ) {r : Ruling} where
  pub whole_is : {half : ℕ} → half ≡ min (length a) (length l) →
      r ≡ after_judging (judged_for settings xs ys fs) (of_run (half / 2) settings c (length s) (length b) xs ys fs (numbered_run settings.closed xs ys fs k)) →
      r ≡ whole_of (inputs xs ys fs) settings k c (work s b a l)
  unfolding check_of
  whole_is e is = is ∙ rw e refl
