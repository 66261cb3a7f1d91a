-- What the checker's entry says, exactly when: yes, no, each refusal, and 8 above all. Definitions and statements; the theorems stand in
-- proofs/Exactly.
use Rattle.std.specs.Prelude.{ℕ, ◌≤◌, ◌<◌, true, false, List, ◌↔◌, ◌≡◌, Float, ℤ, length, Some, None, Ok, Err}
use Rattle.refusals.specs.declared.refusal.Refusal.TheVariants.{TooManyBreaks, PastLastSample, NoSuchRun}
use Rattle.refusals.specs.declared.refusal.Refusal.{Refusal}
use Rattle.refusals.specs.Number.{number_of}
use Rattle.runs.specs.Runs.{numbered_run}
use Rattle.settings.specs.Settings.{grid_of, penalty_of, judged_for}
use Rattle.settings.specs.declared.Settings.{Settings}
use Rattle.breaks.specs.Breaks.{Row}
use Rattle.samples.specs.Samples.{Sample}
use Rattle.survey.specs.Survey.{survey_of}
use Rattle.survey.specs.Survey as Survey
use Rattle.survey.specs.Never.{Sixteen}
use Rattle.chain.specs.Valid.{good_shape, sum_of, chain_in, even_rows}
use Rattle.chain.specs.Rule.{Valid}
use Rattle.rows.specs.Rows.{Work}
use Rattle.rows.specs.Lent.{inputs}
use Rattle.rows.specs.Scratch.{Rooms, answer_room, rooms_of}
use Rattle.checks.specs.Checks.{GivenChain}
use Rattle.checks.specs.Entry.{whole_of}

-- nothing is refused, the run is there and surveyed, and its breaks fit
pub record Reached (rooms : Rooms) (settings : Settings) (xs ys : List ℤ) (fs : List ℕ) (k : ℕ) : Type 0 where
  pub first : ℕ
  pub count : ℕ
  pub samples : List Sample
  pub breaks : Row
  pub fine : judged_for settings xs ys fs ≡ Ok tt
  pub run : numbered_run settings.closed xs ys fs k ≡ Some (record { first = first; count = count })
  pub survey : survey_of rooms.samples rooms.breaks xs ys fs first count (grid_of settings) ≡ Survey.surveyed samples breaks
  pub room : length breaks ≤ answer_room rooms.answers rooms.links

-- a chain of good shape, of whose measures one is refused
pub record Unmeasured (samples : List Sample) (breaks : Row) (penalty : Float) (c : GivenChain) : Type 0 where
  pub even : even_rows c.starts c.ends c.xs c.ys ≡ true
  pub good : good_shape breaks (chain_in c.starts c.ends c.xs c.ys) ≡ true
  pub refused : sum_of samples breaks penalty (chain_in c.starts c.ends c.xs c.ys) ≡ None

module _ (rooms : Rooms) (settings : Settings) (xs ys : List ℤ) (fs : List ℕ) (k : ℕ) (c : GivenChain) where
  -- the chain obeys the user's rule (chain/specs/Rule.antt)
  pub record Accepted : Type 0 where
    pub at : Reached rooms settings xs ys fs k
    pub valid : Valid at.samples at.breaks (penalty_of settings) c.starts c.ends c.xs c.ys c.score

  -- the chain does not obey it, and none of its measures is refused
  pub record Denied : Type 0 where
    pub at : Reached rooms settings xs ys fs k
    pub invalid : Valid at.samples at.breaks (penalty_of settings) c.starts c.ends c.xs c.ys c.score → ⊥
    pub measured : Unmeasured at.samples at.breaks (penalty_of settings) c → ⊥

  pub record Unsettled : Type 0 where
    pub at : Reached rooms settings xs ys fs k
    pub unmeasured : Unmeasured at.samples at.breaks (penalty_of settings) c

  -- refused before the chain is looked at, and for which reason
  pub data Turned : Refusal → Type 0 where
    -- 1 to 5 of the rows, then 16 of the penalty
    unfit : {n : Refusal} → judged_for settings xs ys fs ≡ Err n → Turned n
    -- no such run, or the run is one copied line
    no_run : judged_for settings xs ys fs ≡ Ok tt → numbered_run settings.closed xs ys fs k ≡ None → Turned NoSuchRun
    -- 6 or 7: its samples, or its breaks, have no room
    unsurveyed : {first count : ℕ} {n : Refusal} → judged_for settings xs ys fs ≡ Ok tt → numbered_run settings.closed xs ys fs k ≡ Some (record { first = first; count = count }) →
        survey_of rooms.samples rooms.breaks xs ys fs first count (grid_of settings) ≡ Survey.refused n → Turned n
    -- its breaks are more than half the answer rows
    short : {first count : ℕ} {samples : List Sample} {breaks : Row} → judged_for settings xs ys fs ≡ Ok tt →
        numbered_run settings.closed xs ys fs k ≡ Some (record { first = first; count = count }) →
        survey_of rooms.samples rooms.breaks xs ys fs first count (grid_of settings) ≡ Survey.surveyed samples breaks →
        answer_room rooms.answers rooms.links < length breaks → Turned TooManyBreaks
    -- a length past the samples, which no contour in 16 bits has (survey/specs/Never)
    past : {first count : ℕ} → judged_for settings xs ys fs ≡ Ok tt → numbered_run settings.closed xs ys fs k ≡ Some (record { first = first; count = count }) →
        survey_of rooms.samples rooms.breaks xs ys fs first count (grid_of settings) ≡ Survey.past → Turned PastLastSample

  -- refused, and for which reason: then, or in measuring a chain of good shape
  pub data RefusedBy : Refusal → Type 0 where
    before : {n : Refusal} → Turned n → RefusedBy n
    measuring : Unsettled → RefusedBy PastLastSample

-- yes exactly then
abbrev pub YesExactly : Type 0
YesExactly =
    (xs ys : List ℤ) (fs : List ℕ) (settings : Settings) (k : ℕ) (c : GivenChain) (w : Work) →
    ((whole_of (inputs xs ys fs) settings k c w).verdict ≡ Ok true) ↔ Accepted (rooms_of w) settings xs ys fs k c

-- no exactly then
abbrev pub NoExactly : Type 0
NoExactly =
    (xs ys : List ℤ) (fs : List ℕ) (settings : Settings) (k : ℕ) (c : GivenChain) (w : Work) →
    ((whole_of (inputs xs ys fs) settings k c w).verdict ≡ Ok false) ↔ Denied (rooms_of w) settings xs ys fs k c

-- 8 exactly then, of a contour in 16 bits
abbrev pub EightExactly : Type 0
EightExactly =
    (xs ys : List ℤ) (fs : List ℕ) (settings : Settings) (k : ℕ) (c : GivenChain) (w : Work) → Sixteen xs → Sixteen ys →
    ((whole_of (inputs xs ys fs) settings k c w).verdict ≡ Err PastLastSample) ↔ Unsettled (rooms_of w) settings xs ys fs k c

-- each refusal exactly then
abbrev pub RefusedExactly : Type 0
RefusedExactly =
    (xs ys : List ℤ) (fs : List ℕ) (settings : Settings) (k : ℕ) (c : GivenChain) (w : Work) (n : Refusal) →
    ((whole_of (inputs xs ys fs) settings k c w).verdict ≡ Err n) ↔ RefusedBy (rooms_of w) settings xs ys fs k c n

-- and never by 0, which is the number of a check that is not refused
abbrev pub NeverByZero : Type 0
NeverByZero =
    (rooms : Rooms) (settings : Settings) (xs ys : List ℤ) (fs : List ℕ) (k : ℕ) (c : GivenChain) (n : Refusal) →
    RefusedBy rooms settings xs ys fs k c n → number_of n ≡ 0 → ⊥
