-- Counting the lookups that fell changes nothing else of a contour. Assumes nothing.
use Rattle.std.specs.Prelude.{Some, Result, Ok, Err}
use Rattle.refusals.specs.declared.refusal.Refusal.{Refusal}
use Prim.Native.Nat.{ℕ}
use mathlib.Core.Bool.{Bool, true, false}
use mathlib.Core.List.{List, [], ◌∷◌}
use mathlib.Core.Path.{◌≡◌, refl, ap, ◌∙◌}
use lib.Dec.{ltb}
use lib.IntN.{ℤ}
use lib.ListN.{length}
use Rattle.outline.specs.Segments.{start_of}
use Rattle.runs.specs.Runs.{between, stops_of, is_copied}
use Rattle.runs.specs.declared.Run.{Run}
use Rattle.settings.specs.Settings.{grid_of, penalty_of, judged_for}
use Rattle.settings.specs.declared.Settings.{Settings}
use Rattle.optimize.specs.Tally.{untried}
use Rattle.optimize.specs.declared.Tally.{Tally}
use Rattle.edition.specs.Edition.{Rooms}
use Rattle.edition.specs.Edition as Run
use Rattle.edition.specs.Uncounted as RunBefore
use Rattle.edition.proofs.Uncounted as RunSame
use Rattle.contour.specs.Points.{Points, point_as, start_point}
use Rattle.assembly.specs.Assembly as Now
use Rattle.crunch.specs.Crunch as Whole
use Rattle.crunch.specs.Uncounted as Before
use Rattle.crunch.specs.Uncounted.{CountingChangesNothing}

-- a state without the number
abbrev forget : Now.State → Before.State
forget (Now.refused k) = Before.refused k
forget (Now.ended ps t) = Before.ended ps t.pairs
forget (Now.going ps t) = Before.going ps t.pairs

added_same : (itself : Points) (x : Run.RunOutcome) (ps : Points) (t : Tally) → forget (Now.added itself x ps t) ≡ Before.added itself (RunBefore.without x) ps t.pairs
added_same itself (Run.refused k) ps t = refl
added_same itself (Run.unchanged u) ps t = refl
added_same itself (Run.solved a u) ps t = refl

closed_same : (s : List ℤ) (x : Now.State) → forget (Now.closed_up s x) ≡ Before.closed_up s (forget x)
closed_same s (Now.refused k) = refl
closed_same s (Now.ended ps t) = refl
closed_same s (Now.going ps t) = refl

module _ (rooms : Rooms) (settings : Settings) (xs ys : List ℤ) (fs : List ℕ) where
  run_same : (copied : Bool) (r : Run) (ps : Points) (t : Tally) →
      forget (Now.run_if rooms settings xs ys fs copied r ps t) ≡ Before.run_if rooms settings xs ys fs copied r ps t.pairs
  run_same true r ps t = refl
  run_same false r ps t =
      added_same (Now.itself rooms settings xs ys fs) (Now.result_of rooms settings xs ys fs r) ps t
      ∙ ap (λ (x : RunBefore.RunOutcome). Before.added (Now.itself rooms settings xs ys fs) x ps t.pairs)
      (RunSame.counting_changes_nothing rooms (grid_of settings) (penalty_of settings) xs ys fs r.first r.count)

  onward_same : (r : Run) (x : Now.State) → forget (Now.onward rooms settings xs ys fs r x) ≡ Before.onward rooms settings xs ys fs r (forget x)
  unfolding Now.after_run
  onward_same r (Now.refused k) = refl
  onward_same r (Now.ended ps t) = refl
  onward_same r (Now.going ps t) = run_same (is_copied xs ys fs (Some r)) r ps t

  all_same : (rs : List Run) (x : Now.State) → forget (Now.crunch_all rooms settings xs ys fs rs x) ≡ Before.crunch_all rooms settings xs ys fs rs (forget x)
  unfolding Now.crunch_all Before.crunch_all
  all_same [] x = refl
  all_same (r ∷ rs) x =
      all_same rs (Now.onward rooms settings xs ys fs r x) ∙ ap (Before.crunch_all rooms settings xs ys fs rs) (onward_same r x)

  mode_same : (closed : Bool) (stops : List ℕ) → forget (Now.crunch_in rooms settings xs ys fs closed stops) ≡ Before.crunch_in rooms settings xs ys fs closed stops
  mode_same true [] = refl
  mode_same true (a ∷ stops) =
      let start = point_as true xs ys (start_of fs a) in
      closed_same start (Now.crunch_all rooms settings xs ys fs (between (a ∷ stops)) (Now.going [] untried))
      ∙ ap (Before.closed_up start) (all_same (between (a ∷ stops)) (Now.going [] untried))
  mode_same false stops = all_same (between stops) (Now.going (start_point xs ys ∷ []) untried)

over_same : (closed over : Bool) (ps : Points) (t : Tally) → Before.without (Whole.over_if closed over ps t) ≡ Before.over_if closed over ps t.pairs
over_same closed true ps t = refl
over_same closed false ps t = refl

outcome_same : (closed : Bool) (room : ℕ) (x : Now.State) → Before.without (Whole.outcome_of closed room x) ≡ Before.outcome_of closed room (forget x)
outcome_same closed room (Now.refused k) = refl
outcome_same closed room (Now.ended ps t) = over_same closed (ltb room (length ps)) ps t
outcome_same closed room (Now.going ps t) = over_same closed (ltb room (length ps)) ps t

judged_same : (j : Result Unit Refusal) (o : Whole.Outcome) → Before.without (Whole.after_judging j o) ≡ Before.after_judging j (Before.without o)
judged_same (Err k) o = refl
judged_same (Ok _) o = refl

runs_same : (rooms : Rooms) (settings : Settings) (xs ys : List ℤ) (fs : List ℕ) →
    forget (Now.crunch_runs rooms settings xs ys fs) ≡ Before.crunch_in rooms settings xs ys fs settings.closed (stops_of settings.closed xs ys fs)
unfolding Now.crunch_runs
runs_same rooms settings xs ys fs = mode_same rooms settings xs ys fs settings.closed (stops_of settings.closed xs ys fs)

pub counting_changes_nothing : CountingChangesNothing
unfolding Whole.crunch_of
counting_changes_nothing rooms room settings xs ys fs =
    let runs = Now.crunch_runs rooms settings xs ys fs in
    judged_same (judged_for settings xs ys fs) (Whole.outcome_of settings.closed room runs)
    ∙ ap (Before.after_judging (judged_for settings xs ys fs))
    (outcome_same settings.closed room runs ∙ ap (Before.outcome_of settings.closed room) (runs_same rooms settings xs ys fs))
