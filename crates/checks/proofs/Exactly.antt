-- What a yes, a no, an 8 and every other refusal of the checker's entry say. Assumes nothing.
use Rattle.std.specs.Prelude.{ℕ, ◌<◌, Bool, true, false, not, List, ◌≡◌, refl, ltb, ℤ, length, Float, Option, Some, None, Result, Ok, Err}
use Rattle.std.proofs.Common.{arith, sym, ap, subst, ◌∙◌, ltb-true, ltb-false, lt-ltb, le-ltb}
use Rattle.refusals.specs.Number.{number_of}
use Rattle.refusals.specs.Refusals.{refuse, judged, rows_differ, no_point, too_many, first_off, off_neighbours}
use Rattle.runs.specs.declared.Run.{Run}
use Rattle.runs.specs.Runs.{numbered_run}
use Rattle.settings.specs.Settings.{grid_of, penalty_of, settings_fine, then_settings, judged_for}
use Rattle.settings.specs.declared.Settings.{Settings}
use Rattle.refusals.specs.declared.refusal.Refusal.TheVariants.{UnevenRows, NoPoint, TooManyPoints, StartsOffCurve, OffCurveNeighbours, TooManySamples, TooManyBreaks, PastLastSample, OutputTooShort, NoSuchRun, NoSuchSegment, CutShort, EndsNotRising, TooLarge, Composite, NoSuchPenalty, Outside16Bits, ListTooShort, Malformed, CubicOrOpen, NoOnCurve}
use Rattle.refusals.specs.declared.refusal.Refusal.{Refusal}
use Rattle.breaks.specs.Breaks.{Row}
use Rattle.samples.specs.Samples.{Sample}
use Rattle.survey.specs.Survey.{Survey, survey_of}
use Rattle.survey.specs.Survey as Survey
use Rattle.survey.specs.Never.{Sixteen, Answered, six, seven, found}
use Rattle.survey.proofs.Never.{answered}
use Rattle.chain.specs.Valid.{even_rows, checked_if, checked_chain, check_rows, chain_in}
use Rattle.chain.specs.Laws.{refuses_exactly}
use Rattle.chain.specs.Rule.{Valid}
use Rattle.chain.proofs.Rule.{valid_exactly}
use Rattle.rows.specs.Scratch.{Rooms, answer_room, rooms_of}
use Rattle.checks.specs.Checks.{GivenChain, verdict_of, unless_short, of_survey, of_run, after_judging}
use Rattle.checks.specs.Checks as Checks
use Rattle.checks.specs.Exactly.{Reached, Unmeasured, Accepted, Denied, Unsettled, Turned, unfit, no_run, unsurveyed, short}
use Rattle.checks.specs.Exactly.{RefusedBy, before, measuring, YesExactly, NoExactly, EightExactly, RefusedExactly, NeverByZero}
use Rattle.checks.specs.Exactly as Exactly

-- ---- a chain

-- what is said of a chain for a surveyed run
abbrev said : List Sample → Row → Float → GivenChain → Option Bool
said samples breaks penalty c = check_rows samples breaks penalty c.starts c.ends c.xs c.ys c.score

module _ (samples : List Sample) (breaks : Row) (penalty : Float) (c : GivenChain) where
  even_last : (even : Bool) → even_rows c.starts c.ends c.xs c.ys ≡ even →
      checked_if even (checked_chain samples breaks penalty (chain_in c.starts c.ends c.xs c.ys) c.score) ≡ None → Unmeasured samples breaks penalty c
  even_last false e h = absurd cc
  even_last true e h =
      let so = (refuses_exactly samples breaks penalty (chain_in c.starts c.ends c.xs c.ys) c.score).0 h in
      record { even = e; good = so.0; refused = so.1 }

  last_unmeasured : said samples breaks penalty c ≡ None → Unmeasured samples breaks penalty c
  unfolding check_rows
  last_unmeasured h = even_last (even_rows c.starts c.ends c.xs c.ys) refl h

  unmeasured_last : Unmeasured samples breaks penalty c → said samples breaks penalty c ≡ None
  unfolding check_rows
  unmeasured_last u =
      rw u.even ((refuses_exactly samples breaks penalty (chain_in c.starts c.ends c.xs c.ys) c.score).1 (u.good, u.refused))

  not_both : Some false ≡ Some true → ⊥
  not_both e = cc

  not_none : ◌≡◌ {A = Option Bool} (Some false) None → ⊥
  not_none e = cc

  no_says : said samples breaks penalty c ≡ Some false →
      (Valid samples breaks penalty c.starts c.ends c.xs c.ys c.score → ⊥) × (Unmeasured samples breaks penalty c → ⊥)
  no_says h = (
    λ v. not_both (sym h ∙ (valid_exactly samples breaks penalty c.starts c.ends c.xs c.ys c.score).1 v),
    λ u. not_none (sym h ∙ unmeasured_last u),
  )

  says_no : (Valid samples breaks penalty c.starts c.ends c.xs c.ys c.score → ⊥) → (Unmeasured samples breaks penalty c → ⊥) →
      said samples breaks penalty c ≡ Some false
  says_no invalid measured = by (said samples breaks penalty c) refl
    where
      by : (x : Option Bool) → said samples breaks penalty c ≡ x → said samples breaks penalty c ≡ Some false
      by None e = absurd (measured (last_unmeasured e))
      by (Some true) e = absurd (invalid ((valid_exactly samples breaks penalty c.starts c.ends c.xs c.ys c.score).0 e))
      by (Some false) e = e

-- ---- no contour and no choice is refused by 8 before a run is worked

one_refusal : (n : Refusal) (b : Bool) (j : Result Unit Refusal) → (n ≡ PastLastSample → ⊥) → (j ≡ Err PastLastSample → ⊥) →
    refuse n b j ≡ Err PastLastSample → ⊥
one_refusal n true j here later e = here cc
one_refusal n false j here later e = later e

judged_other : (xs ys : List ℤ) (fs : List ℕ) → judged xs ys fs ≡ Err PastLastSample → ⊥
unfolding judged
judged_other xs ys fs =
    one_refusal UnevenRows (rows_differ (length xs) (length ys) (length fs)) _ (λ e. cc)
    (one_refusal NoPoint (no_point (length fs)) _ (λ e. cc)
    (one_refusal TooManyPoints (too_many (length fs)) _ (λ e. cc)
    (one_refusal StartsOffCurve (first_off fs) _ (λ e. cc)
    (one_refusal OffCurveNeighbours (off_neighbours fs) (Ok tt) (λ e. cc) (λ e. cc)))))

then_other : (s : Settings) (j : Result Unit Refusal) → (j ≡ Err PastLastSample → ⊥) → then_settings s j ≡ Err PastLastSample → ⊥
then_other s (Err k) f e = f e
then_other s (Ok _) f e = one_refusal NoSuchPenalty (not (settings_fine s)) (Ok tt) (λ e. cc) (λ e. cc) e

never_eight : (s : Settings) (xs ys : List ℤ) (fs : List ℕ) → judged_for s xs ys fs ≡ Err PastLastSample → ⊥
unfolding judged_for
never_eight s xs ys fs e = then_other s (judged xs ys fs) (judged_other xs ys fs) e

-- ---- how a verdict comes about

module _ (rooms : Rooms) (settings : Settings) (xs ys : List ℤ) (fs : List ℕ) (k : ℕ) (c : GivenChain) where
  abbrev penalty : Float
  penalty = penalty_of settings

  abbrev half : ℕ
  half = answer_room rooms.answers rooms.links

  abbrev survey_at : ℕ → ℕ → Survey
  survey_at first count = survey_of rooms.samples rooms.breaks xs ys fs first count (grid_of settings)

  data Way : Result Bool Refusal → Type 0 where
    turned : {n : Refusal} → Turned rooms settings xs ys fs k c n → Way (Err n)
    checked : (r : Reached rooms settings xs ys fs k) → Way (verdict_of (said r.samples r.breaks penalty c))

  module _ (fine : judged_for settings xs ys fs ≡ Ok tt) where
    room_way : (first count : ℕ) → numbered_run settings.closed xs ys fs k ≡ Some (record { first = first; count = count }) → (samples : List Sample) (breaks : Row) →
        survey_at first count ≡ Survey.surveyed samples breaks → (n : ℕ) (b : Bool) → ltb half (length breaks) ≡ b →
        Way (unless_short b (Checks.ruling (verdict_of (said samples breaks penalty c)) n)).verdict
    room_way first count run samples breaks survey n true e = turned (short fine run survey (ltb-true half (length breaks) e))
    room_way first count run samples breaks survey n false e = checked (record {
      first = first;
      count = count;
      samples = samples;
      breaks = breaks;
      fine = fine;
      run = run;
      survey = survey;
      room = ltb-false half (length breaks) e;
    })

    survey_way : (first count : ℕ) → numbered_run settings.closed xs ys fs k ≡ Some (record { first = first; count = count }) → (s : Survey) → survey_at first count ≡ s →
        Way (of_survey half penalty c s).verdict
    survey_way first count run (Survey.refused n) e = turned (unsurveyed fine run e)
    survey_way first count run Survey.past e = turned (Exactly.past fine run e)
    survey_way first count run (Survey.surveyed samples breaks) e = room_way first count run samples breaks e _ _ refl

    run_way : (r : Option Run) → numbered_run settings.closed xs ys fs k ≡ r → Way (of_run half settings c rooms.samples rooms.breaks xs ys fs r).verdict
    run_way None e = turned (no_run fine e)
    run_way (Some r) e = survey_way r.first r.count e (survey_at r.first r.count) refl

  judged_way : (j : Result Unit Refusal) → judged_for settings xs ys fs ≡ j →
      Way (after_judging j (of_run half settings c rooms.samples rooms.breaks xs ys fs (numbered_run settings.closed xs ys fs k))).verdict
  judged_way (Err n) e = turned (unfit e)
  judged_way (Ok _) e = run_way e _ refl

  way : Way (Checks.check_of rooms settings xs ys fs c k).verdict
  unfolding Checks.check_of
  way = judged_way (judged_for settings xs ys fs) refl

  -- the other way round: what is turned away is refused
  turned_says : {n : Refusal} → Turned rooms settings xs ys fs k c n → (Checks.check_of rooms settings xs ys fs c k).verdict ≡ Err n
  unfolding Checks.check_of
  turned_says (unfit j) = rw j refl
  turned_says (no_run fine run) = rw (fine, run) refl
  turned_says (unsurveyed fine run survey) = rw (fine, run, survey) refl
  turned_says (short {breaks = breaks} fine run survey few) = rw (fine, run, survey, lt-ltb half (length breaks) few) refl
  turned_says (Exactly.past fine run survey) = rw (fine, run, survey) refl

  -- the other way round: a chain that is reached is judged
  reached_says : (r : Reached rooms settings xs ys fs k) → (Checks.check_of rooms settings xs ys fs c k).verdict ≡ verdict_of (said r.samples r.breaks penalty c)
  unfolding Checks.check_of
  reached_says r = rw (r.fine, r.run, r.survey, le-ltb half (length r.breaks) r.room) refl

  -- ---- yes

  yes_of : (x : Option Bool) → verdict_of x ≡ Ok true → x ≡ Some true
  yes_of None e = absurd cc
  yes_of (Some true) e = refl
  yes_of (Some false) e = absurd cc

  obeys : (samples : List Sample) (breaks : Row) → said samples breaks penalty c ≡ Some true →
      Valid samples breaks penalty c.starts c.ends c.xs c.ys c.score
  obeys samples breaks e = (valid_exactly samples breaks penalty c.starts c.ends c.xs c.ys c.score).0 e

  yes_by : {v : Result Bool Refusal} → Way v → v ≡ Ok true → Accepted rooms settings xs ys fs k c
  yes_by (turned t) e = absurd cc
  yes_by (checked r) e = record { at = r; valid = obeys r.samples r.breaks (yes_of _ e) }

  -- ---- no

  no_of : (x : Option Bool) → verdict_of x ≡ Ok false → x ≡ Some false
  no_of None e = absurd cc
  no_of (Some true) e = absurd cc
  no_of (Some false) e = refl

  no_by : {v : Result Bool Refusal} → Way v → v ≡ Ok false → Denied rooms settings xs ys fs k c
  no_by (turned t) e = absurd cc
  no_by (checked r) e =
      let so = no_says r.samples r.breaks penalty c (no_of _ e) in
      record { at = r; invalid = so.0; measured = so.1 }

  -- ---- 8

  eight_of : {n : Refusal} (x : Option Bool) → verdict_of x ≡ Err n → (n ≡ PastLastSample) × (x ≡ None)
  eight_of None e = (cc, refl)
  eight_of (Some true) e = absurd cc
  eight_of (Some false) e = absurd cc

  -- ---- every refusal

  unsettled_by : (r : Reached rooms settings xs ys fs k) → said r.samples r.breaks penalty c ≡ None → Unsettled rooms settings xs ys fs k c
  unsettled_by r e = record { at = r; unmeasured = last_unmeasured r.samples r.breaks penalty c e }

  refused_by_lem : {v : Result Bool Refusal} {n : Refusal} → Way v → v ≡ Err n → RefusedBy rooms settings xs ys fs k c n
  refused_by_lem {n = n} (turned {n = m} t) e =
      let same : m ≡ n = cc in
      before (subst (Turned rooms settings xs ys fs k c) same t)
  refused_by_lem (checked r) e =
      let so = eight_of _ e in
      subst (RefusedBy rooms settings xs ys fs k c) (sym so.0) (measuring (unsettled_by r so.1))

  unsettled_says : Unsettled rooms settings xs ys fs k c → (Checks.check_of rooms settings xs ys fs c k).verdict ≡ Err PastLastSample
  unsettled_says u = reached_says u.at ∙ ap verdict_of (unmeasured_last u.at.samples u.at.breaks penalty c u.unmeasured)

  refused_says : {n : Refusal} → RefusedBy rooms settings xs ys fs k c n → (Checks.check_of rooms settings xs ys fs c k).verdict ≡ Err n
  refused_says (before t) = turned_says t
  refused_says (measuring u) = unsettled_says u

  module _ (sx : Sixteen xs) (sy : Sixteen ys) where
    six_or_seven : {s : Survey} {n : Refusal} → Answered s → s ≡ Survey.refused n → n ≡ PastLastSample → ⊥
    six_or_seven six e h = cc
    six_or_seven seven e h = cc
    six_or_seven (found samples row) e h = cc

    not_past : {s : Survey} → Answered s → s ≡ Survey.past → ⊥
    not_past six e = cc
    not_past seven e = cc
    not_past (found samples row) e = cc

    turned_eight : {n : Refusal} → Turned rooms settings xs ys fs k c n → n ≡ PastLastSample → ⊥
    turned_eight (unfit j) e = never_eight settings xs ys fs (j ∙ ap Err e)
    turned_eight (no_run fine run) e = cc
    turned_eight (unsurveyed {first} {count} fine run survey) e =
        six_or_seven (answered rooms.samples rooms.breaks xs ys fs first count (grid_of settings) sx sy) survey e
    turned_eight (short fine run survey few) e = cc
    turned_eight (Exactly.past {first} {count} fine run survey) e =
        not_past (answered rooms.samples rooms.breaks xs ys fs first count (grid_of settings) sx sy) survey

    eight_by : {v : Result Bool Refusal} → Way v → v ≡ Err PastLastSample → Unsettled rooms settings xs ys fs k c
    eight_by (turned t) e = absurd (turned_eight t cc)
    eight_by (checked r) e = unsettled_by r (eight_of _ e).1

pub number_above : (n : Refusal) → 0 < number_of n
number_above UnevenRows = omega arith
number_above NoPoint = omega arith
number_above TooManyPoints = omega arith
number_above StartsOffCurve = omega arith
number_above OffCurveNeighbours = omega arith
number_above TooManySamples = omega arith
number_above TooManyBreaks = omega arith
number_above PastLastSample = omega arith
number_above OutputTooShort = omega arith
number_above NoSuchRun = omega arith
number_above NoSuchSegment = omega arith
number_above CutShort = omega arith
number_above EndsNotRising = omega arith
number_above TooLarge = omega arith
number_above Composite = omega arith
number_above NoSuchPenalty = omega arith
number_above Outside16Bits = omega arith
number_above ListTooShort = omega arith
number_above Malformed = omega arith
number_above CubicOrOpen = omega arith
number_above NoOnCurve = omega arith

pub accepts_exactly : YesExactly
accepts_exactly xs ys fs settings k c w = (
  yes_by (rooms_of w) settings xs ys fs k c (way (rooms_of w) settings xs ys fs k c),
  λ a.
      reached_says (rooms_of w) settings xs ys fs k c a.at
      ∙ ap verdict_of
      ((valid_exactly a.at.samples a.at.breaks (penalty_of settings) c.starts c.ends c.xs c.ys c.score).1 a.valid),
)

pub no_exactly : NoExactly
no_exactly xs ys fs settings k c w = (
  no_by (rooms_of w) settings xs ys fs k c (way (rooms_of w) settings xs ys fs k c),
  λ d. reached_says (rooms_of w) settings xs ys fs k c d.at ∙ ap verdict_of (says_no d.at.samples d.at.breaks (penalty_of settings) c d.invalid d.measured),
)

pub eight_exactly : EightExactly
eight_exactly xs ys fs settings k c w sx sy = (
  eight_by (rooms_of w) settings xs ys fs k c sx sy (way (rooms_of w) settings xs ys fs k c),
  unsettled_says (rooms_of w) settings xs ys fs k c,
)

pub refused_exactly : RefusedExactly
refused_exactly xs ys fs settings k c w n = (
  refused_by_lem (rooms_of w) settings xs ys fs k c (way (rooms_of w) settings xs ys fs k c),
  refused_says (rooms_of w) settings xs ys fs k c,
)

-- every number is one of 1 to 21
pub never_by_zero : NeverByZero
never_by_zero rooms settings xs ys fs k c n r e = omega (arith, number_above n)
