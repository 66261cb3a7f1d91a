-- Which controls an answer has: none with a NaN in it, in a run whose last break has none. The theorem `no_nan_control` of proofs/Controls is of the statement
-- here. Statements only.
use Rattle.std.specs.Prelude.{ℕ, ◌-◌, false, List, ◌≡◌, Float, length}
use Rattle.quickmeasure.specs.Statements.{has_nan}
use Rattle.breaks.specs.Breaks.{Row, break_at}
use Rattle.attempt.specs.Answers.{Leg, Statelet, first, on}
use Rattle.optimize.specs.Optimize.{measure_by, solved, optimize_of}

-- no control of an answer's legs has a NaN
pub data NoNan : Statelet → Type 0 where
  starts : {p : Leg} {s : Float} → has_nan p.quad.p1 ≡ false → NoNan (first p s)
  goes : {a : Statelet} {p : Leg} {s : Float} → NoNan a → has_nan p.quad.p1 ≡ false → NoNan (on a p s)

-- The straight piece stands first: it is tried before the bent one from every break on whole units, and its control, between two numbers, is one. A bent
-- piece to a control with a NaN starts at such a break alone, and its score is a NaN, which is less than none. No piece starts at a break with a NaN, so
-- that the last break alone counts.
abbrev pub NoNanControl : Type 0
NoNanControl =
    (samples : List (List Float)) (breaks : Row) (penalty : Float) → has_nan (break_at breaks (length breaks - 1)).xy ≡ false →
    (a : Statelet) (pairs : ℕ) → optimize_of (measure_by samples breaks) breaks penalty ≡ solved a pairs → NoNan a
