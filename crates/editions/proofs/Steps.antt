-- One edition's step on a run: what stands after it, of what stood before. Assumes nothing.
use Rattle.std.specs.Prelude.{Option, Result, Ok, Err}
use Rattle.refusals.specs.declared.refusal.Refusal.{Refusal}
use Prim.Native.Nat.{ℕ, ◌+◌}
use native.Mathlib.Omega.{arith}
use mathlib.Core.Bool.{Bool, true, false, false≢true}
use mathlib.Core.List.{List, ◌++◌}
use mathlib.Core.Path.{◌≡◌, refl, sym, ap, subst, ◌∙◌}
use lib.Ieee.{Float}
use lib.IntN.{ℤ}
use lib.ListN.{length}
use Rattle.breaks.specs.declared.Grid.{Grid}
use Rattle.outline.specs.Segments.{start_of, seg_from}
use Rattle.outline.specs.declared.Seg.{Seg}
use Rattle.runs.specs.Runs.{copied_from}
use Rattle.runs.specs.declared.Run.{Run}
use Rattle.settings.specs.Settings.{grid_of, penalty_of}
use Rattle.settings.specs.declared.Settings.{Settings}
use Rattle.survey.specs.Survey.{survey_of, survey_in}
use Rattle.survey.specs.declared.Surveyed as Y
use Rattle.optimize.specs.Fallen.{Upto, nothing_upto, upto_more}
use Rattle.optimize.specs.declared.Tally.{Tally}
use Rattle.edition.specs.Edition.{RunOutcome, Rooms, after_survey}
use Rattle.contour.specs.Points.{Points, points_of, unchanged_in}
use Rattle.contour.specs.Writing.{Wrote, Appended, written}
use Rattle.contour.specs.Laws.{wrote_after}
use Rattle.contour.specs.declared.Written.{Written}
use Rattle.assembly.specs.Assembly.{State, refused, ended, going, added, result_of, run_if, after_run, onward}
use Rattle.assembly.specs.Stands.{Stands, stops, ends, goes, tally_in}
use Rattle.assembly.specs.declared.Crunching as C
use Rattle.assembly.specs.declared.Crunching.TheVariants as Crunching
use Rattle.assembly.specs.declared.Progress.{Progress}
use Rattle.assembly.proofs.Going.{refused_for, ended_for, going_for}
use Rattle.assembly.proofs.Run.{worked}
use Rattle.editions.specs.Editions.{while_going}
use Rattle.editions.specs.Stands.{over_in, Moves}

-- ---- a step of an edition: three ways

module _ (f : Points → Tally → State) where
  pub refused_stays : {row : Points} {c : Result C.Crunching Refusal} {k : Refusal} → c ≡ Err k → Moves (while_going f) row row c (Err k)
  refused_stays h = record { stands = λ x stands. rw (refused_for stands h) (stops refl); few = λ runs u. nothing_upto (runs + 1) }

  pub ended_stays : {row : Points} {c : Result C.Crunching Refusal} {p : Progress} → c ≡ Ok (Crunching.Ended p) → Moves (while_going f) row row c (Ok (Crunching.Ended p))
  ended_stays h =
      record { stands = λ x stands. let so = ended_for stands h in rw so.is (ends refl so.wrote refl); few = λ runs u. upto_more (omega arith) (subst (λ (x : Result C.Crunching Refusal). Upto runs (tally_in x)) h u) }

  pub going_moves : {old new : Points} {c r : Result C.Crunching Refusal} {p : Progress} → c ≡ Ok (Crunching.Going p) →
      ((ps : Points) → Wrote old p.w (written (length old) ps) → Stands (length old) new (f ps p.tally) r) → ((runs : ℕ) → Upto runs p.tally → Upto (runs + 1) (tally_in r)) →
      Moves (while_going f) old new c r
  going_moves h then few =
      record { stands = λ x stands. let so = going_for stands h in rw so.is (then so.points so.wrote); few = λ runs u. few runs (subst (λ (x : Result C.Crunching Refusal). Upto runs (tally_in x)) h u) }

-- a line's points after those so far
pub line_moves : (g : Seg) {old new : Points} {c : Result C.Crunching Refusal} {p : Progress} {w : Written} → c ≡ Ok (Crunching.Going p) → Appended old p.w new w (points_of g) →
    Moves (while_going (λ ps tally. going (ps ++ points_of g) tally)) old new c (Ok (Crunching.Going (record { w = w; tally = p.tally })))
line_moves g {old} h pushed =
    going_moves _ h (λ ps wrote. goes refl (wrote_after (length old) ps (points_of g) refl pushed wrote) refl) (λ runs u. upto_more (omega arith) u)

-- no sum is too large
pub few_so_far : {c : Result C.Crunching Refusal} {p : Progress} {runs : ℕ} → c ≡ Ok (Crunching.Going p) → Upto runs (tally_in c) → Upto runs p.tally
few_so_far {runs = runs} h u = subst (λ (x : Result C.Crunching Refusal). Upto runs (tally_in x)) h u

-- ---- a run

module _ (rooms : Rooms) (settings : Settings) (xs ys : List ℤ) (fs : List ℕ) (run : Run) where
  abbrev on : State → State
  on = onward rooms settings xs ys fs run

  -- an edition whose work is over
  pub over_stays : {row : Points} (c : Result C.Crunching Refusal) → over_in c ≡ true → Moves on row row c c
  over_stays (Err k) e = record { stands = λ x stands. rw (refused_for stands refl) (stops refl); few = λ runs u. nothing_upto (runs + 1) }
  over_stays (Ok (Crunching.Ended p)) e = record {
    stands = λ x stands. let so = ended_for stands refl in rw so.is (ends refl so.wrote refl);
    few = λ runs u. upto_more (omega arith) u;
  }
  over_stays (Ok (Crunching.Going p)) e = absurd (false≢true e)

  same_step : (f : Points → Tally → State) → ((ps : Points) (t : Tally) → f ps t ≡ after_run rooms settings xs ys fs run ps t) → (x : State) → while_going f x ≡ on x
  same_step f same (refused k) = refl
  same_step f same (ended ps t) = refl
  same_step f same (going ps t) = same ps t

  moves_on : (f : Points → Tally → State) {old new : Points} {c r : Result C.Crunching Refusal} → ((ps : Points) (t : Tally) → f ps t ≡ after_run rooms settings xs ys fs run ps t) →
      Moves (while_going f) old new c r → Moves on old new c r
  moves_on f {old} {new} {c} {r} same m =
      record { stands = λ x stands. subst (λ (y : State). Stands (length old) new y r) (same_step f same x) (m.stands x stands); few = m.few }

  module _ {a : ℕ} (place : a ≡ start_of fs run.first) {copied : Bool} (test : copied ≡ copied_from xs ys fs a run.count) where
    tested : {b : Bool} → copied ≡ b → copied_from xs ys fs (start_of fs run.first) run.count ≡ b
    tested e = ap (λ (at : ℕ). copied_from xs ys fs at run.count) (sym place) ∙ sym test ∙ e

    after_copied : copied ≡ true → {g : Seg} → g ≡ seg_from xs ys fs a → (ps : Points) (t : Tally) → going (ps ++ points_of g) t ≡ after_run rooms settings xs ys fs run ps t
    unfolding after_run
    after_copied e is ps t =
        ap (λ (s : Seg). going (ps ++ points_of s) t) (is ∙ ap (seg_from xs ys fs) place)
        ∙ ap (λ (b : Bool). run_if rooms settings xs ys fs b run ps t) (sym (tested e))

    pub copied_moves : copied ≡ true → {g : Seg} → g ≡ seg_from xs ys fs a → {old new : Points} {c r : Result C.Crunching Refusal} →
        Moves (while_going (λ ps tally. going (ps ++ points_of g) tally)) old new c r → Moves on old new c r
    copied_moves e is m = moves_on _ (after_copied e is) m

    after_worked : copied ≡ false → (ps : Points) (t : Tally) →
        added (unchanged_in xs ys fs settings.closed) (result_of rooms settings xs ys fs run) ps t ≡ after_run rooms settings xs ys fs run ps t
    unfolding after_run
    after_worked e ps t = ap (λ (b : Bool). run_if rooms settings xs ys fs b run ps t) (sym (tested e))

    pub worked_moves : copied ≡ false → {old new : Points} {c r : Result C.Crunching Refusal} →
        Moves (while_going (added (unchanged_in xs ys fs settings.closed) (result_of rooms settings xs ys fs run))) old new c r → Moves on old new c r
    worked_moves e m = moves_on _ (after_worked e) m

-- by another result that is the same
pub result_moves : (itself : Points) {x y : RunOutcome} {old new : Points} {c r : Result C.Crunching Refusal} → x ≡ y →
    Moves (while_going (added itself y)) old new c r → Moves (while_going (added itself x)) old new c r
result_moves itself {old = old} {new = new} {c = c} {r = r} e m = subst (λ (z : RunOutcome). Moves (while_going (added itself z)) old new c r) (sym e) m

-- ---- a step after the survey, with the settings that the order gives it

module _ (rooms : Rooms) (xs ys : List ℤ) (fs : List ℕ) (run : Run) (samples breaks : List (List Float)) (s : Result (Option Y.Surveyed) Refusal) (g : Grid)
    (survey : survey_of rooms.samples rooms.breaks xs ys fs run.first run.count g ≡ survey_in samples breaks s) where
  pub step_moves : (settings : Settings) {chosen : Settings} {old new : Points} {c r : Result C.Crunching Refusal} → chosen ≡ settings → g ≡ grid_of settings →
      Moves (while_going (added (unchanged_in xs ys fs chosen.closed) (after_survey rooms.answers rooms.links (penalty_of chosen) (survey_in samples breaks s))))
      old new c r →
      Moves (while_going (added (unchanged_in xs ys fs settings.closed) (result_of rooms settings xs ys fs run))) old new c r
  step_moves settings {old = old} {new = new} {c = c} {r = r} is grid m =
      result_moves (unchanged_in xs ys fs settings.closed)
      (worked xs ys fs run.first run.count g samples breaks s rooms survey (penalty_of settings) grid)
      (subst (λ (z : Settings).
      Moves (while_going (added (unchanged_in xs ys fs z.closed) (after_survey rooms.answers rooms.links (penalty_of z) (survey_in samples breaks s)))) old new c r)
      is m)
