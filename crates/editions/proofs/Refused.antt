-- Which edition a refusal goes to: the theorems of specs/Refused.antt. Each is a law of one edition, said of both. Assumes nothing.
use Rattle.std.specs.Prelude.{Some, Result, Ok, Err}
use Prim.Native.Nat.{ℕ, ◌≤◌, ◌<◌}
use mathlib.Core.Bool.{Bool, true, false}
use mathlib.Core.List.{List, [], ◌∷◌, ◌++◌}
use mathlib.Core.Path.{◌≡◌, refl, sym, ap, ◌∙◌}
use borrow.Author.Tests.{lt-ltb, le-ltb}
use lib.Dec.{ltb}
use lib.Ieee.{Float}
use lib.IntN.{ℤ}
use lib.ListN.{length}
use Rattle.refusals.specs.Refusals.{judged}
use Rattle.refusals.specs.declared.refusal.Refusal.TheVariants.{TooManySamples, TooManyBreaks, OutputTooShort, NoSuchPenalty}
use Rattle.refusals.specs.declared.refusal.Refusal.{Refusal}
use Rattle.runs.specs.Runs.{between, stops_of, is_copied}
use Rattle.runs.specs.declared.Run.{Run}
use Rattle.rows.specs.Lent.{inputs}
use Rattle.breaks.specs.Breaks.{Row, breaks_of}
use Rattle.breaks.specs.Breaks as Breaks
use Rattle.breaks.specs.declared.Grid.{Grid}
use Rattle.samples.specs.Samples.{Sample, thetas_of, quads_of}
use Rattle.samples.specs.Samples as Samples
use Rattle.settings.specs.Settings.{grid_of, penalty_of, settings_fine}
use Rattle.settings.specs.declared.Settings.{Settings}
use Rattle.survey.specs.Survey.{Survey, sample_room, break_room, searched, after_sampling, survey_of}
use Rattle.optimize.specs.Optimize.{measure_by, optimize_of}
use Rattle.optimize.specs.declared.Tally.{Tally}
use Rattle.edition.specs.Edition.{RunOutcome, Rooms, answer_room, unless_short, edition_of, after_survey, fell_in}
use Rattle.edition.specs.Edition as Edition
use Rattle.edition.specs.Scratch.{rooms_of}
use Rattle.contour.specs.Points.{Points, unchanged_in}
use Rattle.contour.specs.Implied.{finished}
use Rattle.assembly.specs.Assembly.{State, refused, ended, going, added, result_of, run_if, after_run, onward, crunch_all}
use Rattle.assembly.specs.Laws.{stays_refused, stays_ended}
use Rattle.crunch.specs.Crunch.{outcome_of, over_if, crunch_of}
use Rattle.crunch.specs.Entry.{answer_of, point_room}
use Rattle.crunch.specs.declared.Crunched as D
use Rattle.editions.specs.Editions.{settings_a, settings_b, begins, ends, worked_on, work_of}
use Rattle.editions.specs.Entry.{LentRows, rows_a, rows_b, Promise}
use Rattle.editions.specs.Refused.{AtRun, at_end, OneToFiveToBoth, SixteenToItsOwn, SixToEachGoing, SevenOfBreaksToEachGoing}
use Rattle.editions.specs.Refused.{SevenOfAnswersToItsOwn, EightToItsOwn, NineToItsOwn, ToEachGoing}
use Rattle.editions.specs.Refused as Refused
use Rattle.editions.specs.declared.entry.Editions.{Editions}
use Rattle.editions.specs.declared.work.Order.{Order}
use Rattle.editions.proofs.Alone.{ends_refused, work_alone, refused_alone}

-- ---- one edition

module _ (rooms : Rooms) (settings : Settings) (xs ys : List ℤ) (fs : List ℕ) where
  abbrev along : List Run → State → State
  along rs x = crunch_all rooms settings xs ys fs rs x

  along_append : (rs qs : List Run) (x : State) → along (rs ++ qs) x ≡ along qs (along rs x)
  unfolding crunch_all
  along_append [] qs x = refl
  along_append (r ∷ rs) qs x = along_append rs qs (onward rooms settings xs ys fs r x)

  one_run : (r : Run) (rs : List Run) (x : State) → along (r ∷ rs) x ≡ along rs (onward rooms settings xs ys fs r x)
  unfolding crunch_all
  one_run r rs x = refl

  no_run : (x : State) → along [] x ≡ x
  unfolding crunch_all
  no_run x = refl

  -- a run that is worked
  run_worked : (r : Run) (ps : Points) (tally : Tally) → is_copied xs ys fs (Some r) ≡ false →
      after_run rooms settings xs ys fs r ps tally ≡ added (unchanged_in xs ys fs settings.closed) (result_of rooms settings xs ys fs r) ps tally
  unfolding after_run
  run_worked r ps tally e = ap (λ (b : Bool). run_if rooms settings xs ys fs b r ps tally) e

  abbrev survey_at : Run → Survey
  survey_at r = survey_of rooms.samples rooms.breaks xs ys fs r.first r.count (grid_of settings)

  by_survey : (r : Run) {s : Survey} → survey_at r ≡ s → result_of rooms settings xs ys fs r ≡ after_survey rooms.answers rooms.links (penalty_of settings) s
  unfolding Edition.work_of
  by_survey r e = ap (after_survey rooms.answers rooms.links (penalty_of settings)) e

  short_edition : (samples : List Sample) (breaks : Row) (p : Float) → answer_room rooms.answers rooms.links < length breaks →
      edition_of rooms.answers rooms.links samples breaks p ≡ Edition.refused TooManyBreaks
  unfolding edition_of
  short_edition samples breaks p h =
      ap (λ (b : Bool). unless_short b (Edition.result_of (fell_in samples breaks p) (optimize_of (measure_by samples breaks) breaks p))) (lt-ltb (answer_room rooms.answers rooms.links) (length breaks) h)

  long_edition : (samples : List Sample) (breaks : Row) (p : Float) → length breaks ≤ answer_room rooms.answers rooms.links →
      edition_of rooms.answers rooms.links samples breaks p ≡ Edition.result_of (fell_in samples breaks p) (optimize_of (measure_by samples breaks) breaks p)
  unfolding edition_of
  long_edition samples breaks p h =
      ap (λ (b : Bool). unless_short b (Edition.result_of (fell_in samples breaks p) (optimize_of (measure_by samples breaks) breaks p))) (le-ltb (answer_room rooms.answers rooms.links) (length breaks) h)

  abbrev stops_here : List ℕ
  stops_here = stops_of settings.closed xs ys fs

  abbrev start : State
  start = begins settings xs ys fs (settings_fine settings) stops_here

  -- ---- what it is handed back

  module _ (room : ℕ) {answer : Result D.Crunched Refusal} (is : answer ≡ answer_of (crunch_of rooms room settings xs ys fs)) where
    abbrev EndsWith : State → Type 0
    EndsWith x = answer ≡ answer_of (outcome_of settings.closed room (ends xs ys fs settings.closed stops_here x))

    five_so : {k : Refusal} → judged xs ys fs ≡ Err k → answer ≡ Err k
    five_so e = is ∙ ap answer_of (refused_alone rooms settings xs ys fs room e)

    module _ (fine : judged xs ys fs ≡ Ok tt) where
      whole_so : EndsWith (along (between stops_here) start)
      unfolding work_of
      whole_so = is ∙ ap answer_of (sym (work_alone rooms settings xs ys fs room fine))

      ends_so : {x : State} → along (between stops_here) start ≡ x → EndsWith x
      ends_so e = whole_so ∙ ap (λ (x : State). answer_of (outcome_of settings.closed room (ends xs ys fs settings.closed stops_here x))) e

      refused_so : {k : Refusal} → along (between stops_here) start ≡ refused k → answer ≡ Err k
      refused_so {k} e =
          ends_so e ∙ ap (λ (x : State). answer_of (outcome_of settings.closed room x)) (ends_refused rooms settings xs ys fs settings.closed stops_here k)

      sixteen_so : settings_fine settings ≡ false → answer ≡ Err NoSuchPenalty
      sixteen_so e =
          refused_so
          (ap (λ (b : Bool). along (between stops_here) (begins settings xs ys fs b stops_here)) e ∙ stays_refused rooms settings xs ys fs (between stops_here) NoSuchPenalty)

      nine_so : (through : Bool) (ps : Points) (tally : Tally) → worked_on rooms settings xs ys fs stops_here ≡ at_end through ps tally →
          answer ≡ answer_of (over_if settings.closed (ltb room (length ps)) ps tally)
      nine_so true ps tally e = whole_so ∙ ap (λ (x : State). answer_of (outcome_of settings.closed room x)) e
      nine_so false ps tally e = whole_so ∙ ap (λ (x : State). answer_of (outcome_of settings.closed room x)) e

      nine_both : (through : Bool) (ps : Points) (tally : Tally) → worked_on rooms settings xs ys fs stops_here ≡ at_end through ps tally →
          (room < length ps → answer ≡ Err OutputTooShort) × (length ps ≤ room → answer ≡ Ok (record { points = (length (finished settings.closed ps)); tally = tally }))
      nine_both through ps tally e =
          let by : Bool → (Result D.Crunched Refusal) = λ (b : Bool). answer_of (over_if settings.closed b ps tally) in
          (λ h. nine_so through ps tally e ∙ ap by (lt-ltb room (length ps) h), λ h. nine_so through ps tally e ∙ ap by (le-ltb room (length ps) h))

      -- ---- at a run

      module _ (earlier : List Run) (run : Run) (later : List Run) (split : between stops_here ≡ earlier ++ run ∷ later) where
        at_run : {x : State} → along earlier start ≡ x → along (between stops_here) start ≡ along later (onward rooms settings xs ys fs run x)
        at_run e =
            ap (λ (rs : List Run). along rs start) split
            ∙ along_append earlier (run ∷ later) start
            ∙ ap (along (run ∷ later)) e
            ∙ one_run run later _

        keeps_refused : (k : Refusal) → along earlier start ≡ refused k → answer ≡ Err k
        keeps_refused k e = refused_so (at_run e ∙ stays_refused rooms settings xs ys fs later k)

        keeps_ended : (ps : Points) (tally : Tally) → along earlier start ≡ ended ps tally → EndsWith (ended ps tally)
        keeps_ended ps tally e = ends_so (at_run e ∙ stays_ended rooms settings xs ys fs later ps tally)

        module _ (worked : is_copied xs ys fs (Some run) ≡ false) (ps : Points) (tally : Tally) (goes : along earlier start ≡ going ps tally) where
          met : {k : Refusal} → result_of rooms settings xs ys fs run ≡ Edition.refused k → answer ≡ Err k
          met {k} e =
              refused_so
              (at_run goes
              ∙ ap (along later) (run_worked run ps tally worked ∙ ap (λ (x : RunOutcome). added (unchanged_in xs ys fs settings.closed) x ps tally) e)
              ∙ stays_refused rooms settings xs ys fs later k)

          goes_on : {x : RunOutcome} → result_of rooms settings xs ys fs run ≡ x →
              along (earlier ++ run ∷ []) start ≡ added (unchanged_in xs ys fs settings.closed) x ps tally
          goes_on e =
              along_append earlier (run ∷ []) start
              ∙ ap (along (run ∷ [])) goes
              ∙ one_run run [] _
              ∙ no_run _
              ∙ run_worked run ps tally worked
              ∙ ap (λ (x : RunOutcome). added (unchanged_in xs ys fs settings.closed) x ps tally) e

-- ---- the survey, which both editions share

module _ (sampleRow breakRow : ℕ) (xs ys : List ℤ) (fs : List ℕ) (r : Run) (g : Grid) where
  survey_six : thetas_of (sample_room sampleRow) (quads_of xs ys fs r.first r.count) ≡ Samples.refused →
      survey_of sampleRow breakRow xs ys fs r.first r.count g ≡ Survey.refused TooManySamples
  unfolding survey_of
  survey_six e = ap (after_sampling (break_room breakRow) g) e

  survey_seven : (samples : List Sample) (len : Float) → thetas_of (sample_room sampleRow) (quads_of xs ys fs r.first r.count) ≡ Samples.sampled samples len →
      breaks_of (break_room breakRow) samples g len ≡ Breaks.refused TooManyBreaks → survey_of sampleRow breakRow xs ys fs r.first r.count g ≡ Survey.refused TooManyBreaks
  unfolding survey_of
  survey_seven samples len e h = ap (after_sampling (break_room breakRow) g) e ∙ ap (searched samples) h

-- ---- both

module _ (xs ys : List ℤ) (fs : List ℕ) (o : Order) (t : LentRows) (r : Editions) where
  pub one_to_five_to_both : OneToFiveToBoth xs ys fs o t r
  one_to_five_to_both p k e = (
    five_so (rooms_of (rows_a t.entry).work) (settings_a o) xs ys fs (point_room (rows_a t.entry)) p.to_a.answer e,
    five_so (rooms_of (rows_b t.entry).work) (settings_b o) xs ys fs (point_room (rows_b t.entry)) p.to_b.answer e,
  )

  pub sixteen_to_its_own : SixteenToItsOwn xs ys fs o t r
  sixteen_to_its_own p fine = (
    (λ e. sixteen_so (rooms_of (rows_a t.entry).work) (settings_a o) xs ys fs (point_room (rows_a t.entry)) p.to_a.answer fine e, λ e. whole_so (rooms_of (rows_a t.entry).work) (settings_a o) xs ys fs (point_room (rows_a t.entry)) p.to_a.answer fine),
    (λ e. sixteen_so (rooms_of (rows_b t.entry).work) (settings_b o) xs ys fs (point_room (rows_b t.entry)) p.to_b.answer fine e, λ e. whole_so (rooms_of (rows_b t.entry).work) (settings_b o) xs ys fs (point_room (rows_b t.entry)) p.to_b.answer fine),
  )

  -- what the survey refuses goes to each that goes on
  each_going : Promise (inputs xs ys fs) o t r → judged xs ys fs ≡ Ok tt → (w : AtRun xs ys fs o t r) {k : Refusal} → Refused.survey_at xs ys fs o t r w ≡ Survey.refused k → ToEachGoing xs ys fs o t r w k
  each_going p fine w e = (
    ((λ ps tally goes. met (rooms_of (rows_a t.entry).work) (settings_a o) xs ys fs (point_room (rows_a t.entry)) p.to_a.answer fine w.earlier w.run w.later w.split w.worked ps tally goes (by_survey (rooms_of (rows_a t.entry).work) (settings_a o) xs ys fs w.run (e))), (keeps_refused (rooms_of (rows_a t.entry).work) (settings_a o) xs ys fs (point_room (rows_a t.entry)) p.to_a.answer fine w.earlier w.run w.later w.split, keeps_ended (rooms_of (rows_a t.entry).work) (settings_a o) xs ys fs (point_room (rows_a t.entry)) p.to_a.answer fine w.earlier w.run w.later w.split)),
    ((λ ps tally goes. met (rooms_of (rows_b t.entry).work) (settings_b o) xs ys fs (point_room (rows_b t.entry)) p.to_b.answer fine w.earlier w.run w.later w.split w.worked ps tally goes (by_survey (rooms_of (rows_b t.entry).work) (settings_b o) xs ys fs w.run (e))), (keeps_refused (rooms_of (rows_b t.entry).work) (settings_b o) xs ys fs (point_room (rows_b t.entry)) p.to_b.answer fine w.earlier w.run w.later w.split, keeps_ended (rooms_of (rows_b t.entry).work) (settings_b o) xs ys fs (point_room (rows_b t.entry)) p.to_b.answer fine w.earlier w.run w.later w.split)),
  )

  pub six_to_each_going : SixToEachGoing xs ys fs o t r
  six_to_each_going p fine w e = each_going p fine w (survey_six (length t.entry.samples) (length t.entry.breaks) xs ys fs w.run _ e)

  pub seven_of_breaks_to_each_going : SevenOfBreaksToEachGoing xs ys fs o t r
  seven_of_breaks_to_each_going p fine w samples len e h =
      each_going p fine w (survey_seven (length t.entry.samples) (length t.entry.breaks) xs ys fs w.run _ samples len e h)

  pub seven_of_answers_to_its_own : SevenOfAnswersToItsOwn xs ys fs o t r
  seven_of_answers_to_its_own p fine w samples breaks e = (
    (λ ps tally goes. ((λ h. met (rooms_of (rows_a t.entry).work) (settings_a o) xs ys fs (point_room (rows_a t.entry)) p.to_a.answer fine w.earlier w.run w.later w.split w.worked ps tally goes (by_survey (rooms_of (rows_a t.entry).work) (settings_a o) xs ys fs w.run e ∙ short_edition (rooms_of (rows_a t.entry).work) (settings_a o) xs ys fs samples breaks _ h)), (λ h. goes_on (rooms_of (rows_a t.entry).work) (settings_a o) xs ys fs (point_room (rows_a t.entry)) p.to_a.answer fine w.earlier w.run w.later w.split w.worked ps tally goes (by_survey (rooms_of (rows_a t.entry).work) (settings_a o) xs ys fs w.run e ∙ long_edition (rooms_of (rows_a t.entry).work) (settings_a o) xs ys fs samples breaks _ h)))),
    (λ ps tally goes. ((λ h. met (rooms_of (rows_b t.entry).work) (settings_b o) xs ys fs (point_room (rows_b t.entry)) p.to_b.answer fine w.earlier w.run w.later w.split w.worked ps tally goes (by_survey (rooms_of (rows_b t.entry).work) (settings_b o) xs ys fs w.run e ∙ short_edition (rooms_of (rows_b t.entry).work) (settings_b o) xs ys fs samples breaks _ h)), (λ h. goes_on (rooms_of (rows_b t.entry).work) (settings_b o) xs ys fs (point_room (rows_b t.entry)) p.to_b.answer fine w.earlier w.run w.later w.split w.worked ps tally goes (by_survey (rooms_of (rows_b t.entry).work) (settings_b o) xs ys fs w.run e ∙ long_edition (rooms_of (rows_b t.entry).work) (settings_b o) xs ys fs samples breaks _ h)))),
  )

  pub eight_to_its_own : EightToItsOwn xs ys fs o t r
  eight_to_its_own p fine w samples breaks e = (
    (λ ps tally goes room. ((λ h. met (rooms_of (rows_a t.entry).work) (settings_a o) xs ys fs (point_room (rows_a t.entry)) p.to_a.answer fine w.earlier w.run w.later w.split w.worked ps tally goes (by_survey (rooms_of (rows_a t.entry).work) (settings_a o) xs ys fs w.run e ∙ long_edition (rooms_of (rows_a t.entry).work) (settings_a o) xs ys fs samples breaks _ room ∙ ap (Edition.result_of _) h)), goes_on (rooms_of (rows_a t.entry).work) (settings_a o) xs ys fs (point_room (rows_a t.entry)) p.to_a.answer fine w.earlier w.run w.later w.split w.worked ps tally goes (by_survey (rooms_of (rows_a t.entry).work) (settings_a o) xs ys fs w.run e ∙ long_edition (rooms_of (rows_a t.entry).work) (settings_a o) xs ys fs samples breaks _ room))),
    (λ ps tally goes room. ((λ h. met (rooms_of (rows_b t.entry).work) (settings_b o) xs ys fs (point_room (rows_b t.entry)) p.to_b.answer fine w.earlier w.run w.later w.split w.worked ps tally goes (by_survey (rooms_of (rows_b t.entry).work) (settings_b o) xs ys fs w.run e ∙ long_edition (rooms_of (rows_b t.entry).work) (settings_b o) xs ys fs samples breaks _ room ∙ ap (Edition.result_of _) h)), goes_on (rooms_of (rows_b t.entry).work) (settings_b o) xs ys fs (point_room (rows_b t.entry)) p.to_b.answer fine w.earlier w.run w.later w.split w.worked ps tally goes (by_survey (rooms_of (rows_b t.entry).work) (settings_b o) xs ys fs w.run e ∙ long_edition (rooms_of (rows_b t.entry).work) (settings_b o) xs ys fs samples breaks _ room))),
  )

  pub nine_to_its_own : NineToItsOwn xs ys fs o t r
  nine_to_its_own p fine = (
    nine_both (rooms_of (rows_a t.entry).work) (settings_a o) xs ys fs (point_room (rows_a t.entry)) p.to_a.answer fine,
    nine_both (rooms_of (rows_b t.entry).work) (settings_b o) xs ys fs (point_room (rows_b t.entry)) p.to_b.answer fine,
  )
