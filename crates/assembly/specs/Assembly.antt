-- A contour's runs, worked in order: the points that they become, after the start point, the pairs tried, and the lookups
-- that fell in them. Definitions only.
use Rattle.std.specs.Prelude.{ℕ, Bool, true, false, List, [], ◌∷◌, ◌++◌, ℤ, Some}
use Rattle.refusals.specs.declared.refusal.Refusal.{Refusal}
use Rattle.outline.specs.Segments.{start_of, seg_at}
use Rattle.runs.specs.Runs.{between, stops_of, is_copied}
use Rattle.runs.specs.declared.Run.{Run}
use Rattle.settings.specs.Settings.{grid_of, penalty_of}
use Rattle.settings.specs.declared.Settings.{Settings}
use Rattle.optimize.specs.Tally.{untried, plus}
use Rattle.optimize.specs.declared.Tally.{Tally}
use Rattle.edition.specs.Edition.{RunOutcome, Rooms, work_of}
use Rattle.edition.specs.Edition as Edition
use Rattle.contour.specs.Points.{Points, points_of, pieces_points, point_as, start_point, unchanged_in, around}
use Rattle.pieces.specs.Slots.{quads_of}

-- a contour being crunched: the points so far and what was counted. A run that leaves the contour unchanged ends the work.
pub data State : Type 0 where
  refused : Refusal → State
  ended : Points → Tally → State
  going : Points → Tally → State

-- by what the work on a run gives: the contour itself, or the points of the pieces after those so far
abbrev pub added : Points → RunOutcome → Points → Tally → State
added itself (Edition.refused k) ps tally = refused k
added itself (Edition.unchanged t) ps tally = ended itself (plus tally t)
added itself (Edition.solved a t) ps tally = going (ps ++ pieces_points (quads_of a)) (plus tally t)

-- closed: round from the start s, where the work was not ended
abbrev pub closed_up : List ℤ → State → State
closed_up s (refused k) = refused k
closed_up s (ended ps tally) = ended ps tally
closed_up s (going ps tally) = going (around s ps) tally

module _ (rooms : Rooms) (settings : Settings) (xs ys : List ℤ) (fs : List ℕ) where
  -- the contour as it is written where it stays unchanged
  abbrev pub itself : Points
  itself = unchanged_in xs ys fs settings.closed

  -- ---- one run, after the points so far

  abbrev pub result_of : Run → RunOutcome
  result_of r = work_of rooms (grid_of settings) (penalty_of settings) xs ys fs r.first r.count

  -- a run that is one line is copied, and adds no pair
  abbrev pub run_if : Bool → Run → Points → Tally → State
  run_if true r ps tally = going (ps ++ points_of (seg_at xs ys fs r.first)) tally
  run_if false r ps tally = added itself (result_of r) ps tally

  unfoldable pub after_run : Run → Points → Tally → State
  after_run r ps tally = run_if (is_copied xs ys fs (Some r)) r ps tally

  abbrev pub onward : Run → State → State
  onward r (refused k) = refused k
  onward r (ended ps tally) = ended ps tally
  onward r (going ps tally) = after_run r ps tally

  -- ---- the runs in order

  unfoldable pub crunch_all : List Run → State → State
  crunch_all [] s = s
  crunch_all (r ∷ rs) s = crunch_all rs (onward r s)

  -- the crate's mode: from corner to corner, after the start point; segments before the first corner and after the last are not written
  abbrev pub crunch_between : List ℕ → State
  crunch_between corners = crunch_all (between corners) (going (start_point xs ys ∷ []) untried)

  -- closed mode: from the first corner round to it; no corner leaves the contour unchanged
  abbrev pub crunch_round : List ℕ → State
  crunch_round [] = ended itself untried
  crunch_round (a ∷ stops) = closed_up (point_as true xs ys (start_of fs a)) (crunch_all (between (a ∷ stops)) (going [] untried))

  abbrev pub crunch_in : Bool → List ℕ → State
  crunch_in true stops = crunch_round stops
  crunch_in false stops = crunch_between stops

  unfoldable pub crunch_runs : State
  crunch_runs = crunch_in settings.closed (stops_of settings.closed xs ys fs)
