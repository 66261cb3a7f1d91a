-- Which edition a refusal goes to, in the words of document 02. The theorems stand in proofs/Refused.antt. Definitions only.
use Rattle.std.specs.Prelude.{ℕ, ◌≤◌, ◌<◌, Bool, true, false, List, [], ◌∷◌, ◌++◌, ◌≡◌, Float, ℤ, length, Some, Result, Ok, Err}
use Rattle.refusals.specs.Refusals.{judged}
use Rattle.refusals.specs.declared.refusal.Refusal.TheVariants.{TooManySamples, TooManyBreaks, PastLastSample, OutputTooShort, NoSuchPenalty}
use Rattle.refusals.specs.declared.refusal.Refusal.{Refusal}
use Rattle.runs.specs.Runs.{between, stops_of, is_copied}
use Rattle.runs.specs.declared.Run.{Run}
use Rattle.rows.specs.Lent.{inputs}
use Rattle.breaks.specs.Breaks.{Row, breaks_of}
use Rattle.breaks.specs.Breaks as Breaks
use Rattle.samples.specs.Samples.{Sample, thetas_of, quads_of}
use Rattle.samples.specs.Samples as Samples
use Rattle.settings.specs.Settings.{grid_by, penalty_of, settings_fine}
use Rattle.settings.specs.declared.Settings.{Settings}
use Rattle.survey.specs.Survey.{Survey, sample_room, break_room, survey_of}
use Rattle.optimize.specs.Optimize.{Optimised, measure_by, optimize_of}
use Rattle.optimize.specs.Optimize as O
use Rattle.optimize.specs.declared.Tally.{Tally}
use Rattle.edition.specs.Edition.{answer_room, result_of, fell_in}
use Rattle.edition.specs.Scratch.{rooms_of}
use Rattle.contour.specs.Points.{Points, unchanged_in}
use Rattle.contour.specs.Implied.{finished}
use Rattle.assembly.specs.Assembly.{State, refused, ended, going, added, crunch_all}
use Rattle.crunch.specs.Crunch.{outcome_of}
use Rattle.crunch.specs.Entry.{answer_of, point_room}
use Rattle.crunch.specs.Entry as Crunch
use Rattle.crunch.specs.declared.Crunched.{Crunched}
use Rattle.editions.specs.Editions.{settings_a, settings_b, begins, ends, worked_on}
use Rattle.editions.specs.Entry.{LentRows, rows_a, rows_b, Promise}
use Rattle.editions.specs.declared.entry.Editions.{Editions}
use Rattle.editions.specs.declared.work.Order.{Order}

-- an edition: its rows when they are lent, its settings, and what it is handed back
pub record Edition : Type 0 where
  pub rows : Crunch.Rows
  pub settings : Settings
  pub answer : Result Crunched Refusal

-- work that went through all runs, or was ended by one
abbrev pub at_end : Bool → Points → Tally → State
at_end true ps tally = going ps tally
at_end false ps tally = ended ps tally

module _ (xs ys : List ℤ) (fs : List ℕ) (o : Order) (t : LentRows) (r : Editions) where
  -- of every edition of an order
  abbrev pub Each : (Edition → Type 0) → Type 0
  Each P =
      P (record { rows = rows_a t.entry; settings = settings_a o; answer = r.a })
      × P (record { rows = rows_b t.entry; settings = settings_b o; answer = r.b })

  abbrev pub stops : List ℕ
  stops = stops_of o.closed xs ys fs

  -- where an edition's work stands after some of the runs
  abbrev pub after : List Run → Edition → State
  after rs e =
      crunch_all (rooms_of e.rows.work) e.settings xs ys fs rs (begins e.settings xs ys fs (settings_fine e.settings) stops)

  -- what an edition is handed back whose work stands there at its end
  abbrev pub EndsWith : State → Edition → Type 0
  EndsWith x e = e.answer ≡ answer_of (outcome_of o.closed (point_room e.rows) (ends xs ys fs o.closed stops x))

  -- ---- before any run

  abbrev pub OneToFiveToBoth : Type 0
  OneToFiveToBoth = Promise (inputs xs ys fs) o t r → (k : Refusal) → judged xs ys fs ≡ Err k → Each (λ e. e.answer ≡ Err k)

  -- a 16 by an edition's own penalty; with a good one it is worked, whatever the other's is
  abbrev pub SixteenToItsOwn : Type 0
  SixteenToItsOwn =
      Promise (inputs xs ys fs) o t r → judged xs ys fs ≡ Ok tt →
      Each (λ e. (settings_fine e.settings ≡ false → e.answer ≡ Err NoSuchPenalty)
      × (settings_fine e.settings ≡ true → EndsWith (after (between stops) e) e))

  -- ---- in a run that is worked: what the survey finds is the same for both

  pub record AtRun : Type 0 where
    pub earlier : List Run
    pub run : Run
    pub later : List Run
    pub split : between stops ≡ earlier ++ run ∷ later
    pub worked : is_copied xs ys fs (Some run) ≡ false

  abbrev pub survey_at : AtRun → Survey
  survey_at w = survey_of (length t.entry.samples) (length t.entry.breaks) xs ys fs w.run.first w.run.count (grid_by o.whole_units)

  -- an edition whose work goes on so far
  abbrev pub GoesAt : AtRun → Points → Tally → Edition → Type 0
  GoesAt w ps tally e = after w.earlier e ≡ going ps tally

  -- one whose work has ended by then, or was refused, keeps what it has
  abbrev pub KeepsAt : AtRun → Edition → Type 0
  KeepsAt w e =
      ((k : Refusal) → after w.earlier e ≡ refused k → e.answer ≡ Err k)
      × ((ps : Points) (tally : Tally) → after w.earlier e ≡ ended ps tally → EndsWith (ended ps tally) e)

  abbrev pub ToEachGoing : AtRun → Refusal → Type 0
  ToEachGoing w k = Each (λ e. ((ps : Points) (tally : Tally) → GoesAt w ps tally e → e.answer ≡ Err k) × KeepsAt w e)

  -- 6: the run needs more samples than there is room for
  abbrev pub SixToEachGoing : Type 0
  SixToEachGoing =
      Promise (inputs xs ys fs) o t r → judged xs ys fs ≡ Ok tt → (w : AtRun) →
      thetas_of (sample_room (length t.entry.samples)) (quads_of xs ys fs w.run.first w.run.count) ≡ Samples.refused → ToEachGoing w TooManySamples

  -- 7: it has more breaks than 2,048, or than the break row has places
  abbrev pub SevenOfBreaksToEachGoing : Type 0
  SevenOfBreaksToEachGoing =
      Promise (inputs xs ys fs) o t r → judged xs ys fs ≡ Ok tt → (w : AtRun) → (samples : List Sample) (len : Float) →
      thetas_of (sample_room (length t.entry.samples)) (quads_of xs ys fs w.run.first w.run.count) ≡ Samples.sampled samples len →
      breaks_of (break_room (length t.entry.breaks)) samples (grid_by o.whole_units) len ≡ Breaks.refused TooManyBreaks → ToEachGoing w TooManyBreaks

  -- ---- of a surveyed run each edition meets its own

  -- half an edition's answer rows
  abbrev pub answers_of : Edition → ℕ
  answers_of e = answer_room (rooms_of e.rows.work).answers (rooms_of e.rows.work).links

  abbrev pub optimised_by : List Sample → Row → Edition → Optimised
  optimised_by samples breaks e = optimize_of (measure_by samples breaks) breaks (penalty_of e.settings)

  -- how many of its lookups fell
  abbrev pub fell_by : List Sample → Row → Edition → ℕ
  fell_by samples breaks e = fell_in samples breaks (penalty_of e.settings)

  -- the state after the run is what the edition's own optimiser makes of it
  abbrev pub GoesOnBy : AtRun → List Sample → Row → Points → Tally → Edition → Type 0
  GoesOnBy w samples breaks ps tally e =
      after (w.earlier ++ w.run ∷ []) e
      ≡ added (unchanged_in xs ys fs o.closed) (result_of (fell_by samples breaks e) (optimised_by samples breaks e)) ps tally

  -- 7 of short answer rows; an edition whose rows suffice is not given it
  abbrev pub SevenOfAnswersToItsOwn : Type 0
  SevenOfAnswersToItsOwn =
      Promise (inputs xs ys fs) o t r → judged xs ys fs ≡ Ok tt → (w : AtRun) (samples : List Sample) (breaks : Row) →
      survey_at w ≡ Survey.surveyed samples breaks →
      Each (λ e. (ps : Points) (tally : Tally) → GoesAt w ps tally e →
      (answers_of e < length breaks → e.answer ≡ Err TooManyBreaks)
      × (length breaks ≤ answers_of e → GoesOnBy w samples breaks ps tally e))

  -- 8 in measuring, by the edition's own penalty; one that solves the run, or is left unchanged by it, is not given it
  abbrev pub EightToItsOwn : Type 0
  EightToItsOwn =
      Promise (inputs xs ys fs) o t r → judged xs ys fs ≡ Ok tt → (w : AtRun) (samples : List Sample) (breaks : Row) →
      survey_at w ≡ Survey.surveyed samples breaks →
      Each (λ e. (ps : Points) (tally : Tally) → GoesAt w ps tally e → length breaks ≤ answers_of e →
      (optimised_by samples breaks e ≡ O.refused8 → e.answer ≡ Err PastLastSample) × GoesOnBy w samples breaks ps tally e)

  -- ---- at the end: 9 by the edition's own rows

  abbrev pub NineToItsOwn : Type 0
  NineToItsOwn =
      Promise (inputs xs ys fs) o t r → judged xs ys fs ≡ Ok tt →
      Each (λ e. (through : Bool) (ps : Points) (tally : Tally) → worked_on (rooms_of e.rows.work) e.settings xs ys fs stops ≡ at_end through ps tally →
      (point_room e.rows < length ps → e.answer ≡ Err OutputTooShort)
      × (length ps ≤ point_room e.rows → e.answer ≡ Ok (record { points = (length (finished o.closed ps)); tally = tally })))
