-- Counting the lookups that fell changes nothing else of a run. Assumes nothing.
use Prim.Native.Nat.{ℕ}
use mathlib.Core.Bool.{Bool, true, false}
use mathlib.Core.Path.{◌≡◌, refl}
use lib.Dec.{ltb}
use lib.Ieee.{Float}
use lib.ListN.{length}
use Rattle.optimize.specs.Optimize.{Optimised, measure_by, optimize_of}
use Rattle.optimize.specs.Optimize as O
use Rattle.survey.specs.Survey.{Survey, survey_of}
use Rattle.edition.specs.Edition.{answer_room, fell_in, edition_of}
use Rattle.edition.specs.Edition as Counted
use Rattle.edition.specs.Uncounted.{result_of, unless_short, after_survey, without, CountingChangesNothing}

result_same : (fell : ℕ) (o : Optimised) → without (Counted.result_of fell o) ≡ result_of o
result_same fell O.refused8 = refl
result_same fell (O.unchanged p) = refl
result_same fell (O.solved a p) = refl

tested_same : (short : Bool) (fell : ℕ) (o : Optimised) → without (Counted.unless_short short (Counted.result_of fell o)) ≡ unless_short short (result_of o)
tested_same true fell o = refl
tested_same false fell o = result_same fell o

after_same : (answers links : ℕ) (penalty : Float) (s : Survey) → without (Counted.after_survey answers links penalty s) ≡ after_survey answers links penalty s
unfolding edition_of
after_same answers links penalty (Survey.refused k) = refl
after_same answers links penalty Survey.past = refl
after_same answers links penalty (Survey.surveyed samples breaks) =
    tested_same (ltb (answer_room answers links) (length breaks)) (fell_in samples breaks penalty) (optimize_of (measure_by samples breaks) breaks penalty)

pub counting_changes_nothing : CountingChangesNothing
unfolding Counted.work_of
counting_changes_nothing rooms g penalty xs ys fs first count =
    after_same rooms.answers rooms.links penalty (survey_of rooms.samples rooms.breaks xs ys fs first count g)
