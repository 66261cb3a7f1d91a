-- What the export of implied points reports of an answer: its entry's values for it. Definitions only.
use Rattle.std.specs.Prelude.{ℕ, Result}
use Rattle.refusals.specs.declared.refusal.Refusal.{Refusal}
use Rattle.explicit.specs.Entry as Explicit
use Rattle.exports.specs.declared.written_out.ExplicitReport.{ExplicitReport}

abbrev pub report : Result ℕ Refusal → ExplicitReport
report c = record { number = (Explicit.report c).number; points = (Explicit.report c).points }
