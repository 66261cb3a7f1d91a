-- What the export of two editions reports of both answers. Definitions only.
use Rattle.std.specs.Prelude.{Result, Ok, Err}
use Rattle.refusals.specs.Number.{number_of}
use Rattle.refusals.specs.declared.refusal.Refusal.{Refusal}
use Rattle.crunch.specs.declared.Crunched as C
use Rattle.editions.specs.declared.entry.Editions.{Editions}
use Rattle.exports.specs.declared.both_editions.EditionReport.{EditionReport}
use Rattle.exports.specs.declared.both_editions.EditionsReport.{EditionsReport}

abbrev pub report_one : Result C.Crunched Refusal → EditionReport
report_one (Err k) = record { number = number_of k; points = 0; pairs = 0; fallen = 0 }
report_one (Ok c) = record { number = 0; points = c.points; pairs = c.tally.pairs; fallen = c.tally.fallen }

abbrev pub report : Editions → EditionsReport
report r = record { a = report_one r.a; b = report_one r.b }
