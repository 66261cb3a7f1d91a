-- What the export of reasons reports of an answer: its entry's values for it, with a bit for each reason: 1 x, 2 y, 4 before, 8 after, 16 angle.
-- Definitions only.
use Rattle.std.specs.Prelude.{ℕ, ◌+◌, Bool, true, false, Result}
use Rattle.refusals.specs.declared.refusal.Refusal.{Refusal}
use Rattle.why.specs.declared.Marks.{Marks}
use Rattle.why.specs.Entry as Why
use Rattle.exports.specs.declared.reasons.WhyReport.{WhyReport}

abbrev pub bit_if : Bool → ℕ → ℕ
bit_if true bit = bit
bit_if false bit = 0

abbrev pub bits_of : Marks → ℕ
bits_of m = bit_if m.x 1 + bit_if m.y 2 + (bit_if m.before 4 + bit_if m.after 8) + bit_if m.angle 16

abbrev pub report : Result Marks Refusal → WhyReport
report c = record { number = (Why.report c).number; reasons = bits_of (Why.report c).reasons }
