-- What becomes of a contour, without the lookups that fell: as it was defined before these were counted. The statement says that counting changes
-- nothing else. Definitions and a statement.
use Rattle.std.specs.Prelude.{ℕ, ◌+◌, Bool, true, false, List, [], ◌∷◌, ◌++◌, ◌≡◌, ltb, ℤ, length, Some, Result, Ok, Err}
use Rattle.refusals.specs.declared.refusal.Refusal.{Refusal}
use Rattle.refusals.specs.declared.refusal.Refusal.TheVariants.{OutputTooShort}
use Rattle.outline.specs.Segments.{start_of, seg_at}
use Rattle.runs.specs.Runs.{between, stops_of, is_copied}
use Rattle.runs.specs.declared.Run.{Run}
use Rattle.settings.specs.Settings.{grid_of, penalty_of, judged_for}
use Rattle.settings.specs.declared.Settings.{Settings}
use Rattle.edition.specs.Edition.{Rooms}
use Rattle.edition.specs.Uncounted.{RunOutcome, work_of}
use Rattle.edition.specs.Uncounted as Run
use Rattle.contour.specs.Points.{Points, points_of, pieces_points, point_as, start_point, unchanged_in, around}
use Rattle.contour.specs.Implied.{finished}
use Rattle.pieces.specs.Slots.{quads_of}
use Rattle.crunch.specs.Crunch as Counted

pub data State : Type 0 where
  refused : Refusal → State
  ended : Points → ℕ → State
  going : Points → ℕ → State

abbrev pub added : Points → RunOutcome → Points → ℕ → State
added itself (Run.refused k) ps pairs = refused k
added itself (Run.unchanged p) ps pairs = ended itself (pairs + p)
added itself (Run.solved a p) ps pairs = going (ps ++ pieces_points (quads_of a)) (pairs + p)

abbrev pub closed_up : List ℤ → State → State
closed_up s (refused k) = refused k
closed_up s (ended ps pairs) = ended ps pairs
closed_up s (going ps pairs) = going (around s ps) pairs

module _ (rooms : Rooms) (settings : Settings) (xs ys : List ℤ) (fs : List ℕ) where
  abbrev pub itself : Points
  itself = unchanged_in xs ys fs settings.closed

  abbrev pub run_if : Bool → Run → Points → ℕ → State
  run_if true r ps pairs = going (ps ++ points_of (seg_at xs ys fs r.first)) pairs
  run_if false r ps pairs = added itself (work_of rooms (grid_of settings) (penalty_of settings) xs ys fs r.first r.count) ps pairs

  abbrev pub onward : Run → State → State
  onward r (refused k) = refused k
  onward r (ended ps pairs) = ended ps pairs
  onward r (going ps pairs) = run_if (is_copied xs ys fs (Some r)) r ps pairs

  unfoldable pub crunch_all : List Run → State → State
  crunch_all [] s = s
  crunch_all (r ∷ rs) s = crunch_all rs (onward r s)

  abbrev pub crunch_in : Bool → List ℕ → State
  crunch_in true [] = ended itself 0
  crunch_in true (a ∷ stops) = closed_up (point_as true xs ys (start_of fs a)) (crunch_all (between (a ∷ stops)) (going [] 0))
  crunch_in false stops = crunch_all (between stops) (going (start_point xs ys ∷ []) 0)

-- ---- the outcome

pub data Outcome : Type 0 where
  refused_by : Refusal → Outcome
  crunched : Points → ℕ → Outcome

abbrev pub over_if : Bool → Bool → Points → ℕ → Outcome
over_if closed true ps pairs = refused_by OutputTooShort
over_if closed false ps pairs = crunched (finished closed ps) pairs

abbrev pub outcome_of : Bool → ℕ → State → Outcome
outcome_of closed room (refused k) = refused_by k
outcome_of closed room (ended ps pairs) = over_if closed (ltb room (length ps)) ps pairs
outcome_of closed room (going ps pairs) = over_if closed (ltb room (length ps)) ps pairs

abbrev pub after_judging : Result Unit Refusal → Outcome → Outcome
after_judging (Err k) o = refused_by k
after_judging (Ok _) o = o

abbrev pub crunch_of : Rooms → ℕ → Settings → List ℤ → List ℤ → List ℕ → Outcome
crunch_of rooms room settings xs ys fs =
    after_judging (judged_for settings xs ys fs)
    (outcome_of settings.closed room (crunch_in rooms settings xs ys fs settings.closed (stops_of settings.closed xs ys fs)))

-- ---- an outcome without the number

abbrev pub without : Counted.Outcome → Outcome
without (Counted.refused k) = refused_by k
without (Counted.crunched ps t) = crunched ps t.pairs

abbrev pub CountingChangesNothing : Type 0
CountingChangesNothing =
    (rooms : Rooms) (room : ℕ) (settings : Settings) (xs ys : List ℤ) (fs : List ℕ) →
    without (Counted.crunch_of rooms room settings xs ys fs) ≡ crunch_of rooms room settings xs ys fs
