-- The entries as C sees them: the reports in structs of numbers, the score by its bits. Definitions only.
use Rattle.std.specs.Prelude.{ℕ, Bool, true, false, T, Result}
use Rattle.std.specs.Float.{binary64}
use Rattle.std.specs.Float.Ieee.{to_bits, fits}
use Rattle.refusals.specs.declared.refusal.Refusal.{Refusal}
use Rattle.rows.specs.Lent.{Shown}
use Rattle.crunch.specs.Entry as Crunch
use Rattle.crunch.specs.declared.Crunched.{Crunched}
use Rattle.chains.specs.Entry as Chains
use Rattle.chains.specs.declared.Chained.{Chained}
use Rattle.checks.specs.Entry as Checks
use Rattle.checks.specs.declared.Ruling.{Ruling}
use Rattle.fontcrunch.specs.declared.CrunchReport.{CrunchReport}
use Rattle.fontcrunch.specs.declared.ChainReport.{ChainReport}
use Rattle.fontcrunch.specs.declared.CheckReport.{CheckReport}

abbrev pub crunch_report : Result Crunched Refusal → CrunchReport
crunch_report c = record {
  number = (Crunch.report c).number;
  points = (Crunch.report c).points;
  pairs = (Crunch.report c).pairs;
  fallen = (Crunch.report c).fallen;
}

-- every NaN has one pattern
abbrev pub chain_report : Result Chained Refusal → ChainReport
chain_report c = record {
  number = (Chains.report c).number;
  pieces = (Chains.report c).pieces;
  pairs = (Chains.report c).pairs;
  score_bits = to_bits binary64 (Chains.report c).score;
  fallen = (Chains.report c).fallen;
}

abbrev pub bit_of : Bool → ℕ
bit_of true = 1
bit_of false = 0

abbrev pub check_report : Ruling → CheckReport
check_report v = record { number = (Checks.report v).number; accepted = bit_of (Checks.report v).accepted; fallen = (Checks.report v).fallen }

-- the chain export's contract: its entry's, of an answer that the report shows, and whose score is a double
pub record ChainShown (Promise : Result Chained Refusal → Type 0) (r : ChainReport) : Type 0 where
  pub shown : Shown chain_report Promise r
  pub double : T (fits binary64 (Chains.report shown.answer).score)
