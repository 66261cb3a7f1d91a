-- Laws for callers: the points written are no more than the room for them; a contour of more than 1,024 points is refused for that, whatever its points
-- are; and longer rows change no outcome that is not refused for want of room. Assumes nothing.
use Rattle.std.specs.Prelude.{ℕ, ◌≤◌, ◌<◌, Bool, true, ◌||◌, ◌≡◌, ltb, ℤ, length, Some, Result, Ok, Err}
use Rattle.std.proofs.Common.{le_trans, arith, ◌∙◌}
use borrow.Author.Tests.{ltb-false, lt-ltb, le-ltb, eq-eqb, ne_eqb}
use Rattle.std.proofs.Math.Bool.{false}
use mathlib.Core.List.{List, [], ◌∷◌}
use Rattle.std.proofs.Math.Path.{refl, ap}
use Rattle.std.proofs.Math.Dec.{eqb}
use Rattle.rows.specs.Lent.{Inputs, inputs}
use Rattle.runs.specs.Runs.{between, stops_of, is_copied}
use Rattle.runs.specs.declared.Run.{Run}
use Rattle.refusals.specs.Refusals.{judged}
use Rattle.refusals.specs.declared.refusal.Refusal.TheVariants.{TooManyPoints, TooManySamples, TooManyBreaks, OutputTooShort}
use Rattle.refusals.specs.declared.refusal.Refusal.{Refusal}
use Rattle.settings.specs.Settings.{grid_of, penalty_of, then_settings, judged_for}
use Rattle.settings.specs.declared.Settings.{Settings}
use Rattle.optimize.specs.declared.Tally.{Tally}
use Rattle.edition.specs.Edition.{RunOutcome, Rooms}
use Rattle.edition.specs.Edition as Edition
use Rattle.edition.specs.Laws.{Within, work_same}
use Rattle.edition.specs.Scratch.{rooms_of}
use Rattle.contour.specs.Points.{Points}
use Rattle.contour.specs.Laws.{finished_shorter}
use Rattle.assembly.specs.Assembly.{State, ended, going, added, closed_up, itself, result_of, run_if, after_run, onward}
use Rattle.assembly.specs.Assembly.{crunch_all, crunch_round, crunch_in, crunch_runs}
use Rattle.crunch.specs.Crunch.{Outcome, crunched, over_if, outcome_of, after_judging, crunch_of}
use Rattle.crunch.specs.Entry.{report, answer_of, Rows, point_room, whole_of}

-- how many points are written
abbrev pub points_in : Outcome → ℕ
points_in x = (report (answer_of x)).points

module _ (closed : Bool) where
  over_within : (room : ℕ) (ps : Points) (tally : Tally) (b : Bool) → ltb room (length ps) ≡ b → points_in (over_if closed b ps tally) ≤ room
  over_within room ps tally true e = omega arith
  over_within room ps tally false e = le_trans (finished_shorter closed ps) (ltb-false room (length ps) e)

  state_within : (room : ℕ) (s : State) → points_in (outcome_of closed room s) ≤ room
  state_within room (State.refused k) = omega arith
  state_within room (ended ps tally) = over_within room ps tally (ltb room (length ps)) refl
  state_within room (going ps tally) = over_within room ps tally (ltb room (length ps)) refl

judged_within : (room : ℕ) (j : Result Unit Refusal) (x : Outcome) → points_in x ≤ room → points_in (after_judging j x) ≤ room
judged_within room (Err k) x few = omega arith
judged_within room (Ok _) x few = few

pub points_within : (i : Inputs) (settings : Settings) (t : Rows) → points_in (whole_of i settings t) ≤ point_room t
unfolding crunch_of
points_within (inputs xs ys fs) settings t =
    let runs = crunch_runs (rooms_of t.work) settings xs ys fs in
    judged_within (point_room t) (judged_for settings xs ys fs) (outcome_of settings.closed (point_room t) runs)
    (state_within settings.closed (point_room t) runs)

-- ---- refusal 3

module _ (xs ys : List ℤ) (fs : List ℕ) {n : ℕ} (lx : length xs ≡ n) (ly : length ys ≡ n) (lf : length fs ≡ n) (many : 1024 < n) where
  many_judged : judged xs ys fs ≡ Err TooManyPoints
  unfolding judged
  many_judged =
      let some : eqb n 0 ≡ false = ne_eqb n 0 (λ z. omega arith) in
      rw (lx, ly, lf, eq-eqb n n refl, some, lt-ltb 1024 n many) refl

  pub many_refused : (rooms : Rooms) (room : ℕ) (settings : Settings) → crunch_of rooms room settings xs ys fs ≡ Outcome.refused TooManyPoints
  unfolding crunch_of judged_for
  many_refused rooms room settings =
      ap (λ (j : Result Unit Refusal). after_judging (then_settings settings j) (outcome_of settings.closed room (crunch_runs rooms settings xs ys fs))) many_judged

-- ---- longer rows

-- refusals 6, 7 and 9: for want of room
abbrev pub for_room : Refusal → Bool
for_room TooManySamples = true
for_room TooManyBreaks = true
for_room OutputTooShort = true
for_room _ = false

-- an outcome that is refused so
abbrev pub short : Outcome → Bool
short (Outcome.refused k) = for_room k
short (crunched ps tally) = false

abbrev short_state : State → Bool
short_state (State.refused k) = for_room k
short_state (ended ps tally) = false
short_state (going ps tally) = false

module _ (rooms rooms' : Rooms) (within : Within rooms rooms') (settings : Settings) (xs ys : List ℤ) (fs : List ℕ) where
  not_short : (ps : Points) (tally : Tally) (x : RunOutcome) → short_state (added (itself rooms settings xs ys fs) x ps tally) ≡ false →
      (k : Refusal) → for_room k ≡ true → x ≡ Edition.refused k → ⊥
  not_short ps tally x e k lacking h = cc

  run_same : (copied : Bool) (r : Run) (ps : Points) (tally : Tally) → short_state (run_if rooms settings xs ys fs copied r ps tally) ≡ false →
      run_if rooms' settings xs ys fs copied r ps tally ≡ run_if rooms settings xs ys fs copied r ps tally
  run_same true r ps tally e = refl
  run_same false r ps tally e =
      let fits = not_short ps tally (result_of rooms settings xs ys fs r) e in
      ap (λ (x : RunOutcome). added (itself rooms settings xs ys fs) x ps tally)
      (work_same rooms rooms' within (grid_of settings) (penalty_of settings) xs ys fs r.first r.count (fits TooManySamples refl) (fits TooManyBreaks refl))

  onward_same : (r : Run) (s s' : State) → (short_state s ≡ false → s' ≡ s) → short_state (onward rooms settings xs ys fs r s) ≡ false →
      onward rooms' settings xs ys fs r s' ≡ onward rooms settings xs ys fs r s
  unfolding after_run
  onward_same r (State.refused k) s' same e = ap (onward rooms' settings xs ys fs r) (same e)
  onward_same r (ended ps tally) s' same e = ap (onward rooms' settings xs ys fs r) (same refl)
  onward_same r (going ps tally) s' same e =
      ap (onward rooms' settings xs ys fs r) (same refl) ∙ run_same (is_copied xs ys fs (Some r)) r ps tally e

  all_same : (rs : List Run) (s s' : State) → (short_state s ≡ false → s' ≡ s) → short_state (crunch_all rooms settings xs ys fs rs s) ≡ false →
      crunch_all rooms' settings xs ys fs rs s' ≡ crunch_all rooms settings xs ys fs rs s
  unfolding crunch_all
  all_same [] s s' same e = same e
  all_same (r ∷ rs) s s' same e = all_same rs _ _ (onward_same r s s' same) e

  -- closing up refuses nothing
  closed_same : (p : List ℤ) (x x' : State) → (short_state x ≡ false → x' ≡ x) → short_state (closed_up p x) ≡ false → closed_up p x' ≡ closed_up p x
  closed_same p (State.refused k) x' same e = ap (closed_up p) (same e)
  closed_same p (ended ps tally) x' same e = ap (closed_up p) (same refl)
  closed_same p (going ps tally) x' same e = ap (closed_up p) (same refl)

  round_same : (stops : List ℕ) → short_state (crunch_round rooms settings xs ys fs stops) ≡ false →
      crunch_round rooms' settings xs ys fs stops ≡ crunch_round rooms settings xs ys fs stops
  round_same [] e = refl
  round_same (a ∷ stops) e = closed_same _ _ _ (all_same (between (a ∷ stops)) _ _ (λ h. refl)) e

  mode_same : (closed : Bool) (stops : List ℕ) → short_state (crunch_in rooms settings xs ys fs closed stops) ≡ false →
      crunch_in rooms' settings xs ys fs closed stops ≡ crunch_in rooms settings xs ys fs closed stops
  mode_same true stops e = round_same stops e
  mode_same false stops e = all_same (between stops) _ _ (λ h. refl) e

  runs_same : short_state (crunch_runs rooms settings xs ys fs) ≡ false → crunch_runs rooms' settings xs ys fs ≡ crunch_runs rooms settings xs ys fs
  unfolding crunch_runs
  runs_same e = mode_same settings.closed (stops_of settings.closed xs ys fs) e

module _ (closed : Bool) (room room' : ℕ) (more : room ≤ room') where
  over_same : (ps : Points) (tally : Tally) (over : Bool) → ltb room (length ps) ≡ over → short (over_if closed over ps tally) ≡ false →
      over_if closed (ltb room' (length ps)) ps tally ≡ over_if closed over ps tally
  over_same ps tally true t e = absurd cc
  over_same ps tally false t e =
      let few : length ps ≤ room = ltb-false room (length ps) t in
      rw (le-ltb room' (length ps) (omega arith)) refl

  outcome_same : (s s' : State) → (short_state s ≡ false → s' ≡ s) → short (outcome_of closed room s) ≡ false →
      outcome_of closed room' s' ≡ outcome_of closed room s
  outcome_same (State.refused k) s' same e = ap (outcome_of closed room') (same e)
  outcome_same (ended ps tally) s' same e = ap (outcome_of closed room') (same refl) ∙ over_same ps tally _ refl e
  outcome_same (going ps tally) s' same e = ap (outcome_of closed room') (same refl) ∙ over_same ps tally _ refl e

judged_same : (j : Result Unit Refusal) (x x' : Outcome) → (short x ≡ false → x' ≡ x) → short (after_judging j x) ≡ false → after_judging j x' ≡ after_judging j x
judged_same (Err k) x x' same e = refl
judged_same (Ok _) x x' same e = same e

-- an outcome that is not refused for want of room is the outcome in rows at least as long
pub more_room : (rooms rooms' : Rooms) (room room' : ℕ) (settings : Settings) (xs ys : List ℤ) (fs : List ℕ) → Within rooms rooms' → room ≤ room' →
    short (crunch_of rooms room settings xs ys fs) ≡ false → crunch_of rooms' room' settings xs ys fs ≡ crunch_of rooms room settings xs ys fs
unfolding crunch_of
more_room rooms rooms' room room' settings xs ys fs within more e =
    judged_same (judged_for settings xs ys fs) _ _ (outcome_same settings.closed room room' more _ _ (runs_same rooms rooms' within settings xs ys fs)) e
