-- What the export of cubics reports of an answer: its entry's values for it. Definitions only.
use Rattle.std.specs.Prelude.{ℕ, Result}
use Rattle.refusals.specs.declared.refusal.Refusal.{Refusal}
use Rattle.cubics.specs.Entry as Cubics
use Rattle.exports.specs.declared.from_cubics.CubicReport.{CubicReport}

abbrev pub report : Result ℕ Refusal → CubicReport
report c = record { number = (Cubics.report c).number; points = (Cubics.report c).points }
