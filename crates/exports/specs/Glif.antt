-- What the exports of GLIF files report of an answer: of one read, and of one written or crunched. Definitions only.
use Rattle.std.specs.Prelude.{ℕ, Result, Ok, Err}
use Rattle.refusals.specs.Number.{number_of}
use Rattle.refusals.specs.declared.refusal.Refusal.{Refusal}
use Rattle.glifread.specs.declared.read.Counts.{Counts}
use Rattle.exports.specs.declared.glif_files.GlifReadReport.{GlifReadReport}
use Rattle.exports.specs.declared.glif_files.GlifWriteReport.{GlifWriteReport}

abbrev pub read_report : Result Counts Refusal → GlifReadReport
read_report (Err k) = record { number = number_of k; contours = 0; points = 0 }
read_report (Ok c) = record { number = 0; contours = c.contours; points = c.points }

abbrev pub write_report : Result ℕ Refusal → GlifWriteReport
write_report (Err k) = record { number = number_of k; bytes = 0 }
write_report (Ok n) = record { number = 0; bytes = n }
