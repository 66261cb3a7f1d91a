-- Demand 3 for one run of a contour: what the checker says of a chain, given how many places the scratch rows have. Definitions only.
use Rattle.std.specs.Prelude.{ℕ, Bool, true, false, List, ltb, Float, ℤ, length, Option, Some, None, Result, Ok, Err}
use Rattle.refusals.specs.declared.refusal.Refusal.TheVariants.{TooManyBreaks, PastLastSample, NoSuchRun}
use Rattle.refusals.specs.declared.refusal.Refusal.{Refusal}
use Rattle.runs.specs.declared.Run.{Run}
use Rattle.runs.specs.Runs.{numbered_run}
use Rattle.settings.specs.Settings.{grid_of, penalty_of, judged_for}
use Rattle.settings.specs.declared.Settings.{Settings}
use Rattle.survey.specs.Survey.{Survey, survey_of}
use Rattle.chain.specs.Valid.{check_rows}
use Rattle.chain.specs.Fallen.{fallen_rows}
use Rattle.rows.specs.Scratch.{Rooms, answer_room}
use Rattle.checks.specs.declared.Ruling.{Ruling}

abbrev pub verdict_of : Option Bool → Result Bool Refusal
verdict_of None = Err PastLastSample
verdict_of (Some true) = Ok true
verdict_of (Some false) = Ok false

-- a verdict, and the lookups that fell in measuring the chain
abbrev pub ruling : Result Bool Refusal → ℕ → Ruling
ruling verdict fallen = record { verdict = verdict; fallen = fallen }

abbrev pub refusing : Refusal → Ruling
refusing k = ruling (Err k) 0

-- a chain: its four rows and its score
pub record GivenChain : Type 0 where
  pub starts : List ℕ
  pub ends : List ℕ
  pub xs : List Float
  pub ys : List Float
  pub score : Float

abbrev pub unless_short : Bool → Ruling → Ruling
unless_short true v = refusing TooManyBreaks
unless_short false v = v

-- half: half the shortest answer row, a room for breaks. After 6 and 7 the chain is judged. A length past the samples is never met
-- (survey/specs/Never); it would be 8
abbrev pub of_survey : ℕ → Float → GivenChain → Survey → Ruling
of_survey half penalty c (Survey.refused k) = refusing k
of_survey half penalty c Survey.past = refusing PastLastSample
of_survey half penalty c (Survey.surveyed samples breaks) =
    unless_short (ltb half (length breaks))
    (ruling (verdict_of (check_rows samples breaks penalty c.starts c.ends c.xs c.ys c.score))
    (fallen_rows samples breaks penalty c.starts c.ends c.xs c.ys))

-- refusal 10: no such run, or the run is one copied line
abbrev pub of_run : ℕ → Settings → GivenChain → ℕ → ℕ → List ℤ → List ℤ → List ℕ → Option Run → Ruling
of_run half settings c sampleRow breakRow xs ys fs None = refusing NoSuchRun
of_run half settings c sampleRow breakRow xs ys fs (Some r) =
    of_survey half (penalty_of settings) c (survey_of sampleRow breakRow xs ys fs r.first r.count (grid_of settings))

-- refusals 1 to 5, and then 16, first
abbrev pub after_judging : Result Unit Refusal → Ruling → Ruling
after_judging (Err k) v = refusing k
after_judging (Ok _) v = v

-- of a chain for run k
unfoldable pub check_of : Rooms → Settings → List ℤ → List ℤ → List ℕ → GivenChain → ℕ → Ruling
check_of rooms settings xs ys fs c k =
    after_judging (judged_for settings xs ys fs)
    (of_run (answer_room rooms.answers rooms.links) settings c rooms.samples rooms.breaks xs ys fs (numbered_run settings.closed xs ys fs k))
