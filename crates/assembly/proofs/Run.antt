-- One run more: what stands in the row for points after it, of what the work on it leaves. Assumes nothing.
use Rattle.std.specs.Prelude.{Option, Some, None, Result, Ok, Err}
use Rattle.refusals.specs.declared.refusal.Refusal.{Refusal}
use Prim.Native.Nat.{ℕ, ◌≤◌}
use native.Mathlib.Omega.{arith}
use mathlib.Core.Bool.{Bool, true, false}
use mathlib.Core.List.{List}
use mathlib.Core.Path.{◌≡◌, refl, sym, ap, subst, ◌∙◌}
use lib.Ieee.{Float}
use lib.IntN.{ℤ}
use lib.ListN.{length, take}
use Rattle.breaks.specs.Breaks.{Row}
use Rattle.breaks.specs.declared.Grid.{Grid}
use Rattle.outline.specs.Segments.{start_of, seg_from}
use Rattle.outline.specs.declared.Seg.{Seg}
use Rattle.runs.specs.Runs.{copied_from}
use Rattle.runs.specs.declared.Run.{Run}
use Rattle.samples.specs.Samples.{Sample}
use Rattle.attempt.specs.Answers.{Statelet}
use Rattle.optimize.specs.Fallen.{Upto}
use Rattle.optimize.specs.Tally.{tally, plus}
use Rattle.optimize.specs.declared.Tally.{Tally}
use Rattle.optimize.specs.Stored.{Anywhere, Holds}
use Rattle.survey.specs.Survey.{survey_of, survey_in, samples_used, breaks_used}
use Rattle.survey.specs.declared.Surveyed as Y
use Rattle.settings.specs.declared.Settings.{Settings}
use Rattle.edition.specs.Edition.{RunOutcome, Rooms, edition_of, after_survey, work_of, Works}
use Rattle.edition.specs.Edition as E
use Rattle.edition.specs.Laws.{surveyed_found, tally_of, tally_in, works_tally, works_refused, works_unchanged}
use Rattle.edition.specs.declared.Worked as W
use Rattle.edition.specs.declared.Worked.TheVariants as Worked
use Rattle.pieces.specs.Slots.{quads_of, Stored}
use Rattle.pieces.proofs.Within.{solved_within}
use Rattle.contour.specs.Points.{Points, points_of, pieces_points, unchanged_in}
use Rattle.contour.specs.Writing.{Wrote, Appended, written}
use Rattle.contour.specs.Laws.{wrote_after}
use Rattle.contour.specs.declared.Written.{Written}
use Rattle.assembly.specs.Assembly.{added, result_of, run_if, after_run}
use Rattle.assembly.specs.Stands.{Stands, stops, ends, goes, FoundIn, Sighted}
use Rattle.assembly.specs.declared.Crunching as C
use Rattle.assembly.specs.declared.Crunching.TheVariants as Crunching

-- ---- what the answer of the work says of its result

-- the answer of a solved run, and that its points can be written
pub record Done (breaks : Row) (answers : List (List Float)) (links : List ℕ) (x : RunOutcome) (n k : ℕ) (t : Tally) : Type 0 where
  pub answer : Statelet
  pub is : x ≡ E.solved answer t
  pub within : n ≤ length breaks
  pub held : Holds Anywhere (take n breaks) answers links k answer
  pub stored : Stored (take n breaks) answers links k

-- with the penalty that was chosen
pub chosen : (answers links : ℕ) (samples : List Sample) (breaks : Row) {answers' : List (List Float)} {links' : List ℕ} {r : Result W.Worked Refusal} {p q : Float} → p ≡ q →
    Works p breaks answers' links' (edition_of answers links samples breaks p) r → Works q breaks answers' links' (edition_of answers links samples breaks q) r
chosen answers links samples breaks {answers'} {links'} {r} e works =
    subst (λ (p : Float). Works p breaks answers' links' (edition_of answers links samples breaks p) r) e works

module _ {penalty : Float} {breaks : Row} {answers : List (List Float)} {links : List ℕ} where
  pub done : {x : RunOutcome} {r : Result W.Worked Refusal} {n k : ℕ} {t : Tally} → Works penalty breaks answers links x r → r ≡ Ok (Worked.Done n k t) →
      Done breaks answers links x n k t
  done (E.no e) h = absurd cc
  done (E.stays e) h = absurd cc
  done {n = n} {k = k} {t = t} (E.holds {n = n'} {k = k'} {p = p'} {c = c'} {a = a} samples e few fine is held) h =
      let breaks-so : n' ≡ n = cc in
      let place-so : k' ≡ k = cc in
      let tally-so : tally p' c' ≡ t = cc in
      let inside = solved_within samples (take n' breaks) penalty fine.some fine.fit_x fine.fit_y a p' is in
      let kept : Stored (take n' breaks) answers links k' = record { answer = a; holds = held; within = inside; few = fine.few } in
      record {
        answer = a;
        is = ap (E.solved a) tally-so;
        within = subst (λ (m : ℕ). m ≤ length breaks) breaks-so few;
        held = rw (breaks-so, place-so) at held;
        stored = rw (breaks-so, place-so) at kept;
      }

  -- no sum is too large
  pub few : {x : RunOutcome} {r s : Result W.Worked Refusal} → Works penalty breaks answers links x r → Upto 1 (tally_of x) → r ≡ s → Upto 1 (tally_in s)
  few works h e = subst (Upto 1) (works_tally works ∙ ap tally_in e) h

  -- ---- an edition's step

  module _ {x : RunOutcome} {r : Result W.Worked Refusal} (works : Works penalty breaks answers links x r) (itself : Points) where
    pub refused_stands : {k : Refusal} {room : ℕ} {row : Points} (ps : Points) (sofar : Tally) → r ≡ Err k → Stands room row (added itself x ps sofar) (Err k)
    refused_stands ps sofar h = rw (works_refused works h) (stops refl)

    pub unchanged_stands : {t u : Tally} {room : ℕ} {row : Points} {w : Written} (ps : Points) (sofar : Tally) → r ≡ Ok (Worked.Unchanged t) → u ≡ plus sofar t → Wrote row w (written room itself) →
        Stands room row (added itself x ps sofar) (Ok (Crunching.Ended (record { w = w; tally = u })))
    unchanged_stands ps sofar h sum wrote = rw (works_unchanged works h) (ends refl wrote sum)

    pub done_stands : {n k : ℕ} {t u : Tally} {row₀ row : Points} {w₀ w : Written} (ps : Points) (sofar : Tally) → r ≡ Ok (Worked.Done n k t) → u ≡ plus sofar t →
        ((a : Statelet) → Holds Anywhere (take n breaks) answers links k a → Appended row₀ w₀ row w (pieces_points (quads_of a))) → Wrote row₀ w₀ (written (length row₀) ps) →
        Stands (length row₀) row (added itself x ps sofar) (Ok (Crunching.Going (record { w = w; tally = u })))
    done_stands {row₀ = row₀} ps sofar h sum pushed wrote =
        let so = done works h in
        rw so.is (goes refl (wrote_after (length row₀) ps (pieces_points (quads_of so.answer)) refl (pushed so.answer so.held) wrote) sum)

-- ---- a run that is worked, of its survey

module _ (xs ys : List ℤ) (fs : List ℕ) (first count : ℕ) (g : Grid) (samples : List Sample) (breaks : Row) (r : Result (Option Y.Surveyed) Refusal) where
  pub worked : (rooms : Rooms) → survey_of rooms.samples rooms.breaks xs ys fs first count g ≡ survey_in samples breaks r → (penalty : Float) {h : Grid} → g ≡ h →
      work_of rooms h penalty xs ys fs first count ≡ after_survey rooms.answers rooms.links penalty (survey_in samples breaks r)
  unfolding work_of
  worked rooms survey penalty grid =
      ap (after_survey rooms.answers rooms.links penalty) (ap (survey_of rooms.samples rooms.breaks xs ys fs first count) (sym grid) ∙ survey)

  module _ (sampleRow breakRow : ℕ) where
    found_in : (s : Result (Option Y.Surveyed) Refusal) → survey_of sampleRow breakRow xs ys fs first count g ≡ survey_in samples breaks s → FoundIn breaks s
    found_in (Err k) e = tt
    found_in (Ok None) e = tt
    found_in (Ok (Some s)) e = surveyed_found sampleRow breakRow xs ys fs first count g (take s.samples samples) (take s.breaks breaks) e

    -- what a step asks of the rows that it is lent, which are as long as the survey was lent them
    pub sighted : survey_of sampleRow breakRow xs ys fs first count g ≡ survey_in samples breaks r → samples_used r ≤ sampleRow → breaks_used r ≤ breakRow →
        length samples ≡ sampleRow → length breaks ≡ breakRow → Sighted samples breaks r
    sighted survey s b ks kb = record { samples_in_lem = omega arith; breaks_in_lem = omega arith; found = found_in r survey }

pub worked_so : (itself ps : Points) (sofar : Tally) {x y : RunOutcome} {room : ℕ} {row : Points} {c : Result C.Crunching Refusal} → x ≡ y →
    Stands room row (added itself y ps sofar) c → Stands room row (added itself x ps sofar) c
worked_so itself ps sofar {room = room} {row = row} {c = c} e stands = subst (λ (z : RunOutcome). Stands room row (added itself z ps sofar) c) (sym e) stands

-- ---- a step after a survey, by what the survey is

module _ (answers links : ℕ) (penalty : Float) (itself : Points) (samples : List Sample) (breaks : Row) {s t : Result (Option Y.Surveyed) Refusal} (is : s ≡ t) where
  pub surveyed_so : (ps : Points) (sofar : Tally) {room : ℕ} {row : Points} {c : Result C.Crunching Refusal} →
      Stands room row (added itself (after_survey answers links penalty (survey_in samples breaks t)) ps sofar) c →
      Stands room row (added itself (after_survey answers links penalty (survey_in samples breaks s)) ps sofar) c
  surveyed_so ps sofar stands = worked_so itself ps sofar (ap (λ (y : Result (Option Y.Surveyed) Refusal). after_survey answers links penalty (survey_in samples breaks y)) is) stands

-- ---- a run, copied or worked

module _ (rooms : Rooms) (settings : Settings) (xs ys : List ℤ) (fs : List ℕ) (run : Run) {a : ℕ} (place : a ≡ start_of fs run.first)
    {copied : Bool} (test : copied ≡ copied_from xs ys fs a run.count) where
  tested : {b : Bool} → copied ≡ b → copied_from xs ys fs (start_of fs run.first) run.count ≡ b
  tested e = ap (λ (at : ℕ). copied_from xs ys fs at run.count) (sym place) ∙ sym test ∙ e

  pub copied_stands : copied ≡ true → {seg : Seg} → seg ≡ seg_from xs ys fs a → {row₀ row : Points} {w₀ w : Written} (ps : Points) (sofar : Tally) →
      Appended row₀ w₀ row w (points_of seg) → Wrote row₀ w₀ (written (length row₀) ps) →
      Stands (length row₀) row (after_run rooms settings xs ys fs run ps sofar) (Ok (Crunching.Going (record { w = w; tally = sofar })))
  unfolding after_run
  copied_stands test-so {seg} is {row₀} {row} {w₀} {w} ps sofar pushed wrote =
      let segment : seg ≡ seg_from xs ys fs (start_of fs run.first) = is ∙ ap (seg_from xs ys fs) place in
      let there = wrote_after (length row₀) ps (points_of (seg_from xs ys fs (start_of fs run.first))) refl (subst (λ (s : Seg). Appended row₀ w₀ row w (points_of s)) segment pushed) wrote in
      subst (λ (b : Bool). Stands (length row₀) row (run_if rooms settings xs ys fs b run ps sofar) (Ok (Crunching.Going (record { w = w; tally = sofar })))) (sym (tested test-so)) (goes refl there refl)

  pub worked_stands : copied ≡ false → {room : ℕ} {row : Points} {c : Result C.Crunching Refusal} (ps : Points) (sofar : Tally) →
      Stands room row (added (unchanged_in xs ys fs settings.closed) (result_of rooms settings xs ys fs run) ps sofar) c → Stands room row (after_run rooms settings xs ys fs run ps sofar) c
  unfolding after_run
  worked_stands test-so {room} {row} {c} ps sofar stands =
      subst (λ (b : Bool). Stands room row (run_if rooms settings xs ys fs b run ps sofar) c) (sym (tested test-so)) stands
