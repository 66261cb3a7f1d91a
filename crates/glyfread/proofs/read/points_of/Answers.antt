-- `glyfread::read::points_of` meets its contract. Assumes nothing.
use native.Mathlib.Omega.{arith}
use Rattle.glyfread.proofs.Words.{none_at, count_at}
use Rattle.glyfread.proofs.read.points_of.Goals as goal

pub returns-then-contours-eq0 : goal.returns-then-contours-eq0
returns-then-contours-eq0 c = record { value = none_at _ _ c.if-contours-eq0.true; upper_bound = omega arith }

pub returns : goal.returns
returns c = record { value = count_at _ _ c.if-contours-eq0.false c.word_at.ensures c.wide.ensures.value; upper_bound = omega (arith, c.wide.ensures.upper_bound) }
