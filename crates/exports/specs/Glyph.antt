-- What the exports of glyph descriptions report of an answer: of one read, and of one written or crunched. Definitions only.
use Rattle.std.specs.Prelude.{ℕ, Result, Ok, Err}
use Rattle.refusals.specs.Number.{number_of}
use Rattle.refusals.specs.declared.refusal.Refusal.{Refusal}
use Rattle.glyfread.specs.declared.read.Counts.{Counts}
use Rattle.exports.specs.declared.glyph.GlyphReadReport.{GlyphReadReport}
use Rattle.exports.specs.declared.glyph.GlyphWriteReport.{GlyphWriteReport}

abbrev pub read_report : Result Counts Refusal → GlyphReadReport
read_report (Err k) = record { number = number_of k; contours = 0; points = 0; instructions = 0 }
read_report (Ok g) = record { number = 0; contours = g.contours; points = g.points; instructions = g.instructions }

abbrev pub write_report : Result ℕ Refusal → GlyphWriteReport
write_report (Err k) = record { number = number_of k; bytes = 0 }
write_report (Ok n) = record { number = 0; bytes = n }
