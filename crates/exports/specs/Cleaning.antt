-- What the exports of cleaning and of putting back report of an answer: their entries' values for it. Definitions only.
use Rattle.std.specs.Prelude.{ℕ, Result}
use Rattle.refusals.specs.declared.refusal.Refusal.{Refusal}
use Rattle.clean.specs.Entry as Clean
use Rattle.clean.specs.declared.Cleaned as D
use Rattle.exports.specs.declared.cleaning.CleanReport.{CleanReport}
use Rattle.exports.specs.declared.cleaning.PutReport.{PutReport}

abbrev pub report : Result D.Cleaned Refusal → CleanReport
report c = record { number = (Clean.report c).number; kept = (Clean.report c).kept; dropped = (Clean.report c).dropped }

abbrev pub put_report : Result ℕ Refusal → PutReport
put_report c = record { number = (Clean.put_report c).number; points = (Clean.put_report c).points }
