-- What holds of the points while a contour's runs are worked holds at the end, and of the row that comes out, before implied points are dropped. One law
-- for whatever is carried along the runs. Assumes nothing.
use Rattle.std.specs.Prelude.{Some, Result, Ok, Err}
use Prim.Native.Nat.{ℕ}
use native.Mathlib.Omega.{arith}
use mathlib.Core.Bool.{Bool, true, false, not}
use mathlib.Core.List.{List, [], ◌∷◌, ◌++◌}
use mathlib.Core.Path.{◌≡◌, refl}
use lib.Dec.{ltb}
use lib.IntN.{ℤ}
use lib.ListN.{length}
use Rattle.geometry.specs.declared.Quad.{Quad}
use Rattle.refusals.specs.Refusals.{refuse, judged}
use Rattle.refusals.specs.declared.refusal.Refusal.TheVariants.{NoSuchPenalty}
use Rattle.refusals.specs.declared.refusal.Refusal.{Refusal}
use Rattle.outline.specs.declared.Seg.{Seg}
use Rattle.outline.specs.Segments.{seg_at, start_of}
use Rattle.runs.specs.Runs.{between, stops_of, is_copied}
use Rattle.runs.specs.declared.Run.{Run}
use Rattle.settings.specs.Settings.{settings_fine, then_settings, judged_for}
use Rattle.settings.specs.declared.Settings.{Settings}
use Rattle.optimize.specs.declared.Tally.{Tally}
use Rattle.edition.specs.Edition.{RunOutcome, Rooms}
use Rattle.edition.specs.Edition as Edition
use Rattle.contour.specs.Points.{Points, points_of, pieces_points, point_as, start_point, unchanged_in, around}
use Rattle.contour.specs.Implied.{finished}
use Rattle.pieces.specs.Slots.{quads_of}
use Rattle.assembly.specs.Assembly.{State, ended, going, added, closed_up, itself, run_if, result_of, after_run, onward, crunch_all, crunch_round, crunch_in, crunch_runs}
use Rattle.crunch.specs.Crunch.{Outcome, crunched, over_if, outcome_of, after_judging, crunch_of}

-- ---- along the runs

-- of the points where the work goes on, and where it ended
pub data Along (Going Ended : Points → Type 0) : State → Type 0 where
  no : (k : Refusal) → Along Going Ended (State.refused k)
  ends : {ps : Points} {tally : Tally} → Ended ps → Along Going Ended (ended ps tally)
  goes : {ps : Points} {tally : Tally} → Going ps → Along Going Ended (going ps tally)

module _ (While Done Ended : Points → Type 0) (xs ys : List ℤ) (fs : List ℕ) where
  -- how the work begins, and what comes of its points: in closed mode they go round from the first corner
  abbrev pub Begins : Bool → Type 0
  Begins true =
      While [] × ((a : ℕ) (stops : List ℕ) (ps : Points) → stops_of true xs ys fs ≡ a ∷ stops → While ps → Done (around (point_as true xs ys (start_of fs a)) ps))
  Begins false = While (start_point xs ys ∷ []) × ((ps : Points) → While ps → Done ps)

  pub record Carried (closed : Bool) : Type 0 where
    pub begins : Begins closed
    pub segment : (ps : Points) (g : Seg) → While ps → While (ps ++ points_of g)
    pub pieces : (ps : Points) (qs : List Quad) → While ps → While (ps ++ pieces_points qs)
    pub unchanged : Ended (unchanged_in xs ys fs closed)

  module _ (rooms : Rooms) (settings : Settings) (carried : Carried settings.closed) where
    added_along : (x : RunOutcome) {ps : Points} (tally : Tally) → While ps → Along While Ended (added (itself rooms settings xs ys fs) x ps tally)
    added_along (Edition.refused k) tally h = no k
    added_along (Edition.unchanged p) tally h = ends carried.unchanged
    added_along (Edition.solved a p) {ps} tally h = goes (carried.pieces ps (quads_of a) h)

    run_along : (copied : Bool) (r : Run) {ps : Points} (tally : Tally) → While ps → Along While Ended (run_if rooms settings xs ys fs copied r ps tally)
    run_along true r {ps} tally h = goes (carried.segment ps (seg_at xs ys fs r.first) h)
    run_along false r tally h = added_along (result_of rooms settings xs ys fs r) tally h

    onward_along : (r : Run) {s : State} → Along While Ended s → Along While Ended (onward rooms settings xs ys fs r s)
    unfolding after_run
    onward_along r (no k) = no k
    onward_along r (ends h) = ends h
    onward_along r (goes {tally = tally} h) = run_along (is_copied xs ys fs (Some r)) r tally h

    all_along : (rs : List Run) {s : State} → Along While Ended s → Along While Ended (crunch_all rooms settings xs ys fs rs s)
    unfolding crunch_all
    all_along [] h = h
    all_along (r ∷ rs) h = all_along rs (onward_along r h)

    closes_up : (p : List ℤ) → ((ps : Points) → While ps → Done (around p ps)) → {s : State} → Along While Ended s → Along Done Ended (closed_up p s)
    closes_up p f (no k) = no k
    closes_up p f (ends h) = ends h
    closes_up p f (goes {ps = ps} h) = goes (f ps h)

    stays_open : ((ps : Points) → While ps → Done ps) → {s : State} → Along While Ended s → Along Done Ended s
    stays_open f (no k) = no k
    stays_open f (ends h) = ends h
    stays_open f (goes {ps = ps} h) = goes (f ps h)

    round_along : (stops : List ℕ) → stops_of true xs ys fs ≡ stops → Begins true → Along Done Ended (crunch_round rooms settings xs ys fs stops)
    round_along [] e b = ends carried.unchanged
    round_along (a ∷ stops) e b =
        closes_up (point_as true xs ys (start_of fs a)) (λ ps h. b.1 a stops ps e h) (all_along (between (a ∷ stops)) (goes b.0))

    mode_along : (closed : Bool) → Begins closed → Along Done Ended (crunch_in rooms settings xs ys fs closed (stops_of closed xs ys fs))
    mode_along true b = round_along (stops_of true xs ys fs) refl b
    mode_along false b = stays_open b.1 (all_along (between (stops_of false xs ys fs)) (goes b.0))

    pub runs_along : Along Done Ended (crunch_runs rooms settings xs ys fs)
    unfolding crunch_runs
    runs_along = mode_along settings.closed carried.begins

-- ---- the outcome

-- the points that came out of a state
pub data From (closed : Bool) (ps : Points) : State → Type 0 where
  stopped : {row : Points} {tally : Tally} → finished closed row ≡ ps → From closed ps (ended row tally)
  went : {row : Points} {tally : Tally} → finished closed row ≡ ps → From closed ps (going row tally)

abbrev is_crunched : Outcome → ℕ
is_crunched (Outcome.refused k) = 0
is_crunched (crunched ps tally) = 1

not_refused : {k : Refusal} {ps : Points} {tally : Tally} → Outcome.refused k ≡ crunched ps tally → ⊥
not_refused e = let z : ◌≡◌ {A = ℕ} 0 1 = λ i. is_crunched (e i) in omega arith

module _ (closed : Bool) {ps : Points} {tally : Tally} where
  over_from : (b : Bool) (row : Points) (t : Tally) → over_if closed b row t ≡ crunched ps tally → finished closed row ≡ ps
  over_from true row t e = absurd (not_refused e)
  over_from false row t e = cc

  outcome_from : (room : ℕ) (s : State) → outcome_of closed room s ≡ crunched ps tally → From closed ps s
  outcome_from room (State.refused k) e = absurd (not_refused e)
  outcome_from room (ended row t) e = stopped (over_from (ltb room (length row)) row t e)
  outcome_from room (going row t) e = went (over_from (ltb room (length row)) row t e)

-- what is not refused was let through by 1 to 5, and by 16
by_penalty : (refused : Bool) (o : Outcome) {ps : Points} {tally : Tally} → after_judging (refuse NoSuchPenalty refused (Ok tt)) o ≡ crunched ps tally → o ≡ crunched ps tally
by_penalty true o e = absurd (not_refused e)
by_penalty false o e = e

let_through : (settings : Settings) (j : Result Unit Refusal) (o : Outcome) {ps : Points} {tally : Tally} → after_judging (then_settings settings j) o ≡ crunched ps tally →
    (j ≡ Ok tt) × (o ≡ crunched ps tally)
let_through settings (Err k) o e = absurd (not_refused e)
let_through settings (Ok _) o e = (refl, by_penalty (not (settings_fine settings)) o e)

module _ (rooms : Rooms) (room : ℕ) (settings : Settings) (xs ys : List ℤ) (fs : List ℕ) {ps : Points} {tally : Tally}
    (came : crunch_of rooms room settings xs ys fs ≡ crunched ps tally) where
  through : (judged xs ys fs ≡ Ok tt) × (outcome_of settings.closed room (crunch_runs rooms settings xs ys fs) ≡ crunched ps tally)
  unfolding crunch_of judged_for
  through = let_through settings (judged xs ys fs) (outcome_of settings.closed room (crunch_runs rooms settings xs ys fs)) came

  pub came_fine : judged xs ys fs ≡ Ok tt
  came_fine = through.0

  pub came_from : From settings.closed ps (crunch_runs rooms settings xs ys fs)
  came_from = outcome_from settings.closed room (crunch_runs rooms settings xs ys fs) through.1

-- ---- where one thing holds of the points at the end, however the work ends

-- what comes out is a row of which it holds, without its implied points
pub record Came (Done : Points → Type 0) (closed : Bool) (ps : Points) : Type 0 where
  pub row : Points
  pub holds : Done row
  pub is : finished closed row ≡ ps

came_by : (Done : Points → Type 0) (closed : Bool) (ps : Points) {s : State} → Along Done Done s → From closed ps s → Came Done closed ps
came_by Done closed ps (ends h) (stopped {row = row} e) = record { row = row; holds = h; is = e }
came_by Done closed ps (goes h) (went {row = row} e) = record { row = row; holds = h; is = e }
came_by Done closed ps (no k) x3 = elim x3 [ ]

pub comes_out : (While Done : Points → Type 0) (rooms : Rooms) (room : ℕ) (settings : Settings) (xs ys : List ℤ) (fs : List ℕ) {ps : Points} {tally : Tally} →
    (judged xs ys fs ≡ Ok tt → Carried While Done Done xs ys fs settings.closed) →
    crunch_of rooms room settings xs ys fs ≡ crunched ps tally → Came Done settings.closed ps
comes_out While Done rooms room settings xs ys fs {ps} carried e =
    came_by Done settings.closed ps
    (runs_along While Done Done xs ys fs rooms settings (carried (came_fine rooms room settings xs ys fs e)))
    (came_from rooms room settings xs ys fs e)
