-- What the exports of dropping idle controls and of putting them back report of an answer: what those of cleaning report, since the answers are
-- cleaning's. Definitions only.
use Rattle.std.specs.Prelude.{ℕ, Result}
use Rattle.refusals.specs.declared.refusal.Refusal.{Refusal}
use Rattle.clean.specs.declared.Cleaned as D
use Rattle.exports.specs.Cleaning as Cleaning
use Rattle.exports.specs.declared.cleaning.CleanReport.{CleanReport}
use Rattle.exports.specs.declared.cleaning.PutReport.{PutReport}

abbrev pub report : Result D.Cleaned Refusal → CleanReport
report c = Cleaning.report c

abbrev pub put_report : Result ℕ Refusal → PutReport
put_report c = Cleaning.put_report c
