-- A chain that the chain entry gives is that of an answer of the optimiser for its run. Assumes nothing.
use Rattle.std.specs.Prelude.{Option, Some, None, Result, Ok, Err}
use Rattle.refusals.specs.declared.refusal.Refusal.{Refusal}
use Prim.Native.Nat.{ℕ}
use mathlib.Core.Bool.{Bool, true, false}
use mathlib.Core.List.{List}
use mathlib.Core.Path.{◌≡◌, refl}
use lib.Dec.{ltb}
use lib.Ieee.{Float}
use lib.IntN.{ℤ}
use lib.ListN.{length}
use Rattle.settings.specs.Settings.{grid_of, penalty_of, judged_for}
use Rattle.settings.specs.declared.Settings.{Settings}
use Rattle.chain.specs.declared.Piece.{Piece}
use Rattle.runs.specs.declared.Run.{Run}
use Rattle.edition.specs.Edition.{RunOutcome, Rooms, work_of}
use Rattle.edition.specs.Edition as Edition
use Rattle.runs.specs.Runs.{numbered_run}
use Rattle.attempt.specs.Answers.{Statelet, score_of}
use Rattle.optimize.specs.declared.Tally.{Tally}
use Rattle.pieces.specs.Pieces.{pieces_of}
use Rattle.chains.specs.Chains.{chained, over_if, chain_out, of_run, after_judging, chain_of}

module _ (rooms : Rooms) (room : ℕ) (settings : Settings) (xs ys : List ℤ) (fs : List ℕ) (k : ℕ) (ps : List Piece) (score : Float) (tally : Tally) where
  abbrev work_in : ℕ → ℕ → RunOutcome
  work_in first count = work_of rooms (grid_of settings) (penalty_of settings) xs ys fs first count

  -- run k, and what the work on it came to
  pub record Solved : Type 0 where
    pub first : ℕ
    pub count : ℕ
    pub run : numbered_run settings.closed xs ys fs k ≡ Some (record { first = first; count = count })
    pub answer : Statelet
    pub counted : Tally
    pub work : work_in first count ≡ Edition.solved answer counted
    pub pieces : pieces_of answer ≡ ps
    pub scored : score_of answer ≡ score

  over_solved : (first count : ℕ) → numbered_run settings.closed xs ys fs k ≡ Some (record { first = first; count = count }) → (a : Statelet) (t : Tally) → work_in first count ≡ Edition.solved a t →
      (over : Bool) → over_if over (pieces_of a) (score_of a) t ≡ chained ps score tally → Solved
  over_solved first count run a t e true h = absurd cc
  over_solved first count run a t e false h = record { first = first; count = count; run = run; answer = a; counted = t; work = e; pieces = cc; scored = cc }

  written_solved : (first count : ℕ) → numbered_run settings.closed xs ys fs k ≡ Some (record { first = first; count = count }) → (x : RunOutcome) → work_in first count ≡ x → chain_out room x ≡ chained ps score tally → Solved
  written_solved first count run (Edition.refused n) e h = absurd cc
  written_solved first count run (Edition.unchanged t) e h = absurd cc
  written_solved first count run (Edition.solved a t) e h = over_solved first count run a t e (ltb room (length (pieces_of a))) h

  run_solved : (r : Option Run) → numbered_run settings.closed xs ys fs k ≡ r → of_run rooms room settings xs ys fs r ≡ chained ps score tally → Solved
  run_solved None e h = absurd cc
  run_solved (Some r) e h = written_solved r.first r.count e _ refl h

  judged_solved : (j : Result Unit Refusal) → after_judging j (of_run rooms room settings xs ys fs (numbered_run settings.closed xs ys fs k)) ≡ chained ps score tally → Solved
  judged_solved (Err n) h = absurd cc
  judged_solved (Ok _) h = run_solved _ refl h

  pub chain_solved : chain_of rooms room settings xs ys fs k ≡ chained ps score tally → Solved
  unfolding chain_of
  chain_solved e = judged_solved (judged_for settings xs ys fs) e
