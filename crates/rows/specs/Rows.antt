-- The zeros of each type of scratch row, and the rows that a run is worked in. Definitions only.
use Rattle.std.specs.Prelude.{ℕ, List, ℤ, pos, Float, replicate}
use Rattle.std.specs.Float.{binary64}
use Rattle.std.specs.Float.Ieee.{of_bits}

-- a place of n floats, each 0
abbrev pub float_zero : ℕ → List Float
float_zero n = replicate n (of_bits binary64 0)

-- a sample: x, y, and the direction's x, y; a break: s, x, y, the direction's x, y, and its segment; an answer: the score, and the control's x, y
abbrev pub sample_zero : List Float
sample_zero = float_zero 4

abbrev pub break_zero : List Float
break_zero = float_zero 6

abbrev pub answer_zero : List Float
answer_zero = float_zero 3

-- a link
abbrev pub link_zero : ℕ
link_zero = 0

-- a point: x, y, flag
abbrev pub point_zero : List ℤ
point_zero = replicate 3 (pos 0)

-- samples, breaks, answers, links
pub data Work : Type 0 where
  work : List (List Float) → List (List Float) → List (List Float) → List ℕ → Work

-- rows of so many places, zero throughout
abbrev pub zero_work : ℕ → ℕ → ℕ → ℕ → Work
zero_work s b a l = work (replicate s sample_zero) (replicate b break_zero) (replicate a answer_zero) (replicate l link_zero)
