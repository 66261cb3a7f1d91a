-- A contour is left unchanged for one cause. Assumes nothing.
use Rattle.std.specs.Prelude.{Some}
use Rattle.refusals.specs.declared.refusal.Refusal.{Refusal}
use Prim.Native.Nat.{ℕ}
use native.Mathlib.Omega.{arith}
use mathlib.Core.Bool.{Bool, true, false, true≢false}
use mathlib.Core.List.{List, [], ◌∷◌}
use mathlib.Core.Path.{◌≡◌, refl, sym, ap, ◌∙◌}
use lib.IntN.{ℤ}
use Rattle.settings.specs.Settings.{grid_of, penalty_of}
use Rattle.settings.specs.declared.Settings.{Settings}
use Rattle.contour.specs.Points.{Points}
use Rattle.runs.specs.Runs.{between, stops_of, runs_of, is_copied}
use Rattle.runs.specs.declared.Run.{Run}
use Rattle.optimize.specs.Tally.{untried}
use Rattle.optimize.specs.declared.Tally.{Tally}
use Rattle.edition.specs.Edition.{RunOutcome, Rooms}
use Rattle.edition.specs.Edition as Edition
use Rattle.edition.proofs.Causes.{unchanged_exactly}
use Rattle.survey.specs.Never.{Sixteen}
use Rattle.assembly.specs.Assembly.{State, refused, ended, going, added, closed_up, itself, result_of, run_if, after_run, onward, crunch_all, crunch_round, crunch_in, crunch_runs}
use Rattle.assembly.specs.Laws.{stays_refused, stays_ended}
use Rattle.crunch.specs.Crunch.{crunch_of}
use Rattle.crunch.specs.Cause.{Worked, Refused, Stops, Stuck, here, later, EndsUnchanged, ComesOut, OneCause}

-- no two kinds are one
abbrev is_ended : State → ℕ
is_ended (refused k) = 0
is_ended (ended ps tally) = 1
is_ended (going ps tally) = 0

abbrev is_refused : RunOutcome → ℕ
is_refused (Edition.refused k) = 1
is_refused (Edition.unchanged t) = 0
is_refused (Edition.solved a t) = 0

module _ (rooms : Rooms) (settings : Settings) (xs ys : List ℤ) (fs : List ℕ) where
  abbrev along : List Run → State → State
  along = crunch_all rooms settings xs ys fs

  -- ended, with the contour itself
  abbrev Leaves : State → Type 0
  Leaves s = (tally : Tally) × (s ≡ ended (itself rooms settings xs ys fs) tally)

  module _ (sx : Sixteen xs) (sy : Sixteen ys) where
    -- ---- one run, by what follows it
    module _ (r : Run) (rs : List Run) where
      stops_by : {t : Tally} → result_of rooms settings xs ys fs r ≡ Edition.unchanged t → Stops rooms settings xs ys fs r
      stops_by {t} e = ((unchanged_exactly rooms (grid_of settings) (penalty_of settings) xs ys fs r.first r.count sx sy t).0 e).cause

      unrefused : {x : RunOutcome} → result_of rooms settings xs ys fs r ≡ x → is_refused x ≡ 0 → Refused rooms settings xs ys fs r → ⊥
      unrefused e z h = omega (arith, ap is_refused (sym e ∙ h.1.1))

      -- what was ended has the cause
      module _ (cause : (ps : Points) (tally : Tally) → Leaves (along rs (going ps tally)) → Stuck rooms settings xs ys fs rs) where
        added_stuck : (x : RunOutcome) → result_of rooms settings xs ys fs r ≡ x → Worked rooms settings xs ys fs r → (ps : Points) (tally : Tally) →
            Leaves (along rs (added (itself rooms settings xs ys fs) x ps tally)) → Stuck rooms settings xs ys fs (r ∷ rs)
        added_stuck (Edition.refused k) e w ps tally h = absurd (omega (arith, ap is_ended (sym (stays_refused rooms settings xs ys fs rs k) ∙ h.1)))
        added_stuck (Edition.unchanged t) e w ps tally h = here w (stops_by e)
        added_stuck (Edition.solved a t) e w ps tally h = later (unrefused e refl) (cause _ _ h)

        run_stuck : (copied : Bool) → is_copied xs ys fs (Some r) ≡ copied → (ps : Points) (tally : Tally) →
            Leaves (along rs (run_if rooms settings xs ys fs copied r ps tally)) → Stuck rooms settings xs ys fs (r ∷ rs)
        run_stuck true e ps tally h = later (λ n. true≢false (sym e ∙ n.0)) (cause _ _ h)
        run_stuck false e ps tally h = added_stuck _ refl e ps tally h

      -- and the cause ends it
      module _ (leaves : Stuck rooms settings xs ys fs rs → (ps : Points) (tally : Tally) → Leaves (along rs (going ps tally))) where
        ends : (ps : Points) (t : Tally) → ps ≡ itself rooms settings xs ys fs → Leaves (along rs (ended ps t))
        ends ps t e = (t, stays_ended rooms settings xs ys fs rs ps t ∙ ap (λ (q : Points). ended q t) e)

        added_leaves : (x : RunOutcome) → result_of rooms settings xs ys fs r ≡ x → Worked rooms settings xs ys fs r →
            (Refused rooms settings xs ys fs r → ⊥) → Stuck rooms settings xs ys fs rs → (ps : Points) (tally : Tally) → Leaves (along rs (added (itself rooms settings xs ys fs) x ps tally))
        added_leaves (Edition.refused k) e w n s ps tally = absurd (n (w, (k, e)))
        added_leaves (Edition.unchanged t) e w n s ps tally = ends _ _ refl
        added_leaves (Edition.solved a t) e w n s ps tally = leaves s _ _

        run_leaves : (copied : Bool) → is_copied xs ys fs (Some r) ≡ copied → (Refused rooms settings xs ys fs r → ⊥) →
            Stuck rooms settings xs ys fs rs → (ps : Points) (tally : Tally) → Leaves (along rs (run_if rooms settings xs ys fs copied r ps tally))
        run_leaves true e n s ps tally = leaves s _ _
        run_leaves false e n s ps tally = added_leaves _ refl e n s ps tally

        here_leaves : Worked rooms settings xs ys fs r → Stops rooms settings xs ys fs r → (ps : Points) (tally : Tally) →
            Leaves (along rs (run_if rooms settings xs ys fs (is_copied xs ys fs (Some r)) r ps tally))
        here_leaves w u ps tally =
            let is = (unchanged_exactly rooms (grid_of settings) (penalty_of settings) xs ys fs r.first r.count sx sy _).1 (record { cause = u; is = refl }) in
            rw (w, is) (ends _ _ refl)

        any_leaves : Stuck rooms settings xs ys fs (r ∷ rs) → (ps : Points) (tally : Tally) →
            Leaves (along rs (run_if rooms settings xs ys fs (is_copied xs ys fs (Some r)) r ps tally))
        any_leaves (here w u) ps tally = here_leaves w u ps tally
        any_leaves (later n s) ps tally = run_leaves _ refl n s ps tally

    -- ---- the runs

    all_stuck : (rs : List Run) (ps : Points) (tally : Tally) → Leaves (along rs (going ps tally)) → Stuck rooms settings xs ys fs rs
    unfolding crunch_all after_run
    all_stuck [] ps tally h = absurd (omega (arith, ap is_ended h.1))
    all_stuck (r ∷ rs) ps tally h = run_stuck r rs (all_stuck rs) _ refl ps tally h

    all_leaves : (rs : List Run) → Stuck rooms settings xs ys fs rs → (ps : Points) (tally : Tally) → Leaves (along rs (going ps tally))
    unfolding crunch_all after_run
    all_leaves (r ∷ rs) s ps tally = any_leaves r rs (all_leaves rs) s ps tally
    all_leaves [] s ps tally = elim s [ ]

-- ---- the contour itself

module _ (rooms : Rooms) (settings : Settings) (xs ys : List ℤ) (fs : List ℕ) where
  data Kept : State → Type 0 where
    was_refused : (k : Refusal) → Kept (refused k)
    goes : (ps : Points) (tally : Tally) → Kept (going ps tally)
    ends_so : (tally : Tally) → Kept (ended (itself rooms settings xs ys fs) tally)

  added_kept : (x : RunOutcome) (ps : Points) (tally : Tally) → Kept (added (itself rooms settings xs ys fs) x ps tally)
  added_kept (Edition.refused k) ps tally = was_refused k
  added_kept (Edition.unchanged t) ps tally = ends_so _
  added_kept (Edition.solved a t) ps tally = goes _ _

  run_kept : (copied : Bool) (r : Run) (ps : Points) (tally : Tally) → Kept (run_if rooms settings xs ys fs copied r ps tally)
  run_kept true r ps tally = goes _ _
  run_kept false r ps tally = added_kept (result_of rooms settings xs ys fs r) ps tally

  onward_kept : (r : Run) {s : State} → Kept s → Kept (onward rooms settings xs ys fs r s)
  unfolding after_run
  onward_kept r (was_refused k) = was_refused k
  onward_kept r (goes ps tally) = run_kept (is_copied xs ys fs (Some r)) r ps tally
  onward_kept r (ends_so tally) = ends_so tally

  all_kept : (rs : List Run) {s : State} → Kept s → Kept (crunch_all rooms settings xs ys fs rs s)
  unfolding crunch_all
  all_kept [] h = h
  all_kept (r ∷ rs) h = all_kept rs (onward_kept r h)

  closed_kept : (p : List ℤ) {s : State} → Kept s → Kept (closed_up p s)
  closed_kept p (was_refused k) = was_refused k
  closed_kept p (goes ps tally) = goes _ tally
  closed_kept p (ends_so tally) = ends_so tally

  round_kept : (stops : List ℕ) → Kept (crunch_round rooms settings xs ys fs stops)
  round_kept [] = ends_so untried
  round_kept (a ∷ stops) = closed_kept _ (all_kept (between (a ∷ stops)) (goes _ _))

  mode_kept : (closed : Bool) (stops : List ℕ) → Kept (crunch_in rooms settings xs ys fs closed stops)
  mode_kept true stops = round_kept stops
  mode_kept false stops = all_kept (between stops) (goes _ _)

  kept_is : {s : State} → Kept s → (ps : Points) (tally : Tally) → s ≡ ended ps tally → s ≡ ended (itself rooms settings xs ys fs) tally
  kept_is (was_refused k) ps tally e = absurd (omega (arith, ap is_ended e))
  kept_is (goes qs n) ps tally e = absurd (omega (arith, ap is_ended e))
  kept_is (ends_so n) ps tally e = let same : n ≡ tally = cc in ap (ended (itself rooms settings xs ys fs)) same

  pub ends_unchanged : EndsUnchanged rooms settings xs ys fs
  unfolding crunch_runs
  ends_unchanged ps tally e = kept_is (mode_kept settings.closed (stops_of settings.closed xs ys fs)) ps tally e

  pub comes_out : ComesOut rooms settings xs ys fs
  unfolding crunch_of
  comes_out room tally fine e = rw (fine, e) refl

pub one_cause : (rooms : Rooms) (settings : Settings) (xs ys : List ℤ) (fs : List ℕ) → OneCause rooms settings xs ys fs
unfolding crunch_runs runs_of
one_cause rooms settings xs ys fs mode sx sy =
    let runs = between (stops_of false xs ys fs) in
    let crate : crunch_in rooms settings xs ys fs settings.closed (stops_of settings.closed xs ys fs) ≡ crunch_in rooms settings xs ys fs false (stops_of false xs ys fs) =
    ap (λ (b : Bool). crunch_in rooms settings xs ys fs b (stops_of b xs ys fs)) mode in (
      λ h. all_stuck rooms settings xs ys fs sx sy runs _ _ (h.0, sym crate ∙ h.1),
      λ s. let left = all_leaves rooms settings xs ys fs sx sy runs s _ _ in (left.0, crate ∙ left.1),
    )
