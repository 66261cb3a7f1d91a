-- The optimiser's chain of one run of a contour, given how many places the rows have. Definitions only.
use Rattle.std.specs.Prelude.{ℕ, Bool, true, false, List, ltb, Float, ℤ, length, Option, Some, None, Result, Ok, Err}
use Rattle.refusals.specs.declared.refusal.Refusal.TheVariants.{OutputTooShort, NoSuchRun}
use Rattle.refusals.specs.declared.refusal.Refusal.{Refusal}
use Rattle.runs.specs.declared.Run.{Run}
use Rattle.runs.specs.Runs.{numbered_run}
use Rattle.settings.specs.Settings.{grid_of, penalty_of, judged_for}
use Rattle.settings.specs.declared.Settings.{Settings}
use Rattle.attempt.specs.Answers.{score_of}
use Rattle.optimize.specs.declared.Tally.{Tally}
use Rattle.chain.specs.declared.Piece.{Piece}
use Rattle.edition.specs.Edition.{RunOutcome, Rooms, work_of}
use Rattle.edition.specs.Edition as Edition
use Rattle.pieces.specs.Pieces.{pieces_of}

-- a refusal; a run that leaves the contour unchanged; or the chain and its score. With the pairs tried and the lookups that fell in them
pub data Outcome : Type 0 where
  refused : Refusal → Outcome
  unchanged : Tally → Outcome
  chained : List Piece → Float → Tally → Outcome

-- refusal 9 last: the pieces exceed the shortest chain row
abbrev pub over_if : Bool → List Piece → Float → Tally → Outcome
over_if true ps score t = refused OutputTooShort
over_if false ps score t = chained ps score t

abbrev pub chain_out : ℕ → RunOutcome → Outcome
chain_out room (Edition.refused k) = refused k
chain_out room (Edition.unchanged t) = unchanged t
chain_out room (Edition.solved a t) = over_if (ltb room (length (pieces_of a))) (pieces_of a) (score_of a) t

-- refusals 1 to 5, and then 16, first
abbrev pub after_judging : Result Unit Refusal → Outcome → Outcome
after_judging (Err k) o = refused k
after_judging (Ok _) o = o

-- with chain rows of so many places
module _ (rooms : Rooms) (room : ℕ) (settings : Settings) (xs ys : List ℤ) (fs : List ℕ) where
  -- refusal 10: no such run, or the run is one copied line
  abbrev pub of_run : Option Run → Outcome
  of_run None = refused NoSuchRun
  of_run (Some r) = chain_out room (work_of rooms (grid_of settings) (penalty_of settings) xs ys fs r.first r.count)

  -- of run k
  unfoldable pub chain_of : ℕ → Outcome
  chain_of k = after_judging (judged_for settings xs ys fs) (of_run (numbered_run settings.closed xs ys fs k))
