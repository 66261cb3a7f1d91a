-- What the steps of the chain entry hand on, and what they ask of the answer rows. Definitions only.
use Rattle.std.specs.Prelude.{ℕ, List, ◌≡◌, Float, Result}
use Rattle.refusals.specs.declared.refusal.Refusal.{Refusal}
use Rattle.breaks.specs.Breaks.{Row}
use Rattle.edition.specs.Edition.{RunOutcome, Works}
use Rattle.edition.specs.declared.Worked as W
use Rattle.chains.specs.Chains.{Outcome}
use Rattle.chains.specs.Entry.{Rows, answer_of, rows_of, LentChain}
use Rattle.chains.specs.declared.Chained as C

-- the answer, and the chain's rows
pub data Handed : Type 0 where
  handed : Result C.Chained Refusal → Rows → Handed

abbrev pub handing : Outcome → Row → Rows → Handed
handing o breaks c = handed (answer_of o) (rows_of o breaks c)

-- what is handed back for an outcome and the breaks of its run, with the chain's rows
abbrev pub Hands : Outcome → Row → LentChain → Result C.Chained Refusal → Type 0
Hands o breaks c r = handed r c.exit ≡ handing o breaks c.entry

-- the rows hold what the work on a run says of them
pub record Readable (answers : List (List Float)) (links : List ℕ) (worked : Result W.Worked Refusal) : Type 0 where
  pub penalty : Float
  pub breaks : Row
  pub result : RunOutcome
  pub works : Works penalty breaks answers links result worked
