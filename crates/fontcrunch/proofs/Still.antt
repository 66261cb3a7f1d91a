-- (5, 5) on, off, on: a run of length 0, whose one break is a NaN, from which no piece may start. So it is left unchanged after one pair, in the crate's mode
-- and closed, and no measure is made. Rows of specs/Table, by computation. Assumes nothing.
use Prim.Native.Nat.{ℕ}
use mathlib.Core.List.{List, [], ◌∷◌}
use mathlib.Core.Path.{◌≡◌, refl}
use lib.IntN.{ℤ, pos}
use lib.Ieee as Ieee
use Rattle.float.specs.Float.{abs_of, tiny, close_to, whole_by, root_of, root_units, root_near, root_down}
use Rattle.refusals.specs.Refusals.{off_neighbours, judged}
use Rattle.outline.specs.Segments.{count_of, end_of, place_after, seg_from}
use Rattle.corners.specs.Corners as Corners
use Rattle.runs.specs.Runs.{marks_from, corner_list, stops_of, between}
use Rattle.arclen.specs.Rk4.{moved, grown_all, rk4}
use Rattle.arclen.specs.Arclen.{arclen_functor_of, deriv_of, speed_of, rk4_one}
use Rattle.samples.specs.Samples.{quads_from, fill_from, fill_to, filled, moved_to, sweep_from, length_from, sweep_all, length_all, last_of, finished, thetas_of}
use Rattle.lookup.specs.Lookup.{looked_up}
use Rattle.breaks.specs.Breaks.{place_at, opened, opens, join_of, breaks_of}
use Rattle.breaks.specs.Breaks as Breaks
use Rattle.settings.specs.Settings.{penalty_of, judged_for}
use Rattle.survey.specs.Survey.{survey_of}
use Rattle.attempt.specs.Answers.{combined}
use Rattle.optimize.specs.Optimize.{optimize_of, try_line_quad, bent, try_quad}
use Rattle.edition.specs.Edition.{work_of, edition_of}
use Rattle.contour.specs.Points.{points_to, came_to, pieces_points}
use Rattle.contour.specs.Implied.{is_implied, implied_at, look, drop_from, cut_of}
use Rattle.assembly.specs.Assembly.{after_run, crunch_all, crunch_runs}
use Rattle.crunch.specs.Crunch.{crunch_of}
use Rattle.fontcrunch.specs.Table.{contour, gives, evaluate, on, off}

abbrev fives : List ℤ
fives = pos 5 ∷ pos 5 ∷ pos 5 ∷ []

abbrev fs : List ℕ
fs = 1 ∷ 0 ∷ 1 ∷ []

pub row_holds : evaluate (contour 16 0 fives fives fs)
    ≡ gives (on (pos 5) (pos 5) ∷ on (pos 5) (pos 5) ∷ off (pos 5) (pos 5) ∷ on (pos 5) (pos 5) ∷ []) 1
unfolding Corners.marked Corners.state_at Corners.corners_of crunch_of judged_for judged off_neighbours crunch_runs crunch_all after_run stops_of corner_list between
    marks_from count_of end_of place_after seg_from points_to pieces_points drop_from look implied_at is_implied cut_of work_of survey_of edition_of optimize_of try_line_quad bent
    try_quad combined penalty_of thetas_of finished filled fill_to fill_from moved_to sweep_from length_from sweep_all length_all last_of quads_from arclen_functor_of deriv_of
    speed_of rk4_one rk4 moved grown_all place_at opened opens join_of Breaks.walk breaks_of looked_up abs_of tiny close_to whole_by root_of root_units root_near root_down
    Ieee.to_signed Ieee.to_unsigned Ieee.of_int Ieee.of_bits Ieee.round Ieee.size Ieee.neg Ieee.add Ieee.sub Ieee.mul Ieee.div Ieee.lt Ieee.eq Ieee.le
row_holds = refl

pub closed_row_holds : evaluate (contour 16 1 fives fives fs) ≡ gives (on (pos 5) (pos 5) ∷ off (pos 5) (pos 5) ∷ on (pos 5) (pos 5) ∷ []) 1
unfolding Corners.marked Corners.state_at Corners.corners_of crunch_of judged_for judged off_neighbours crunch_runs crunch_all after_run stops_of corner_list between
    marks_from count_of end_of place_after seg_from came_to pieces_points drop_from look implied_at is_implied cut_of work_of survey_of edition_of optimize_of try_line_quad bent
    try_quad combined penalty_of thetas_of finished filled fill_to fill_from moved_to sweep_from length_from sweep_all length_all last_of quads_from arclen_functor_of deriv_of
    speed_of rk4_one rk4 moved grown_all place_at opened opens join_of Breaks.walk breaks_of looked_up abs_of tiny close_to whole_by root_of root_units root_near root_down
    Ieee.to_signed Ieee.to_unsigned Ieee.of_int Ieee.of_bits Ieee.round Ieee.size Ieee.neg Ieee.add Ieee.sub Ieee.mul Ieee.div Ieee.lt Ieee.eq Ieee.le
closed_row_holds = refl
