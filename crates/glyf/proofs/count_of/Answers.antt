-- `glyf::count_of` meets its contract. Assumes nothing.
use native.Mathlib.Omega.{arith}
use Rattle.glyf.proofs.Rises.{no_points_lem, some_points}
use Rattle.glyf.proofs.count_of.Goals as goal

pub returns-then-ends-eq0 : goal.returns-then-ends-eq0
returns-then-ends-eq0 c = record { value = no_points_lem _ c.if-ends-eq0.true; upper_bound = omega arith }

pub returns : goal.returns
returns c = record { value = rw c.wide.ensures.value (some_points _ c.if-ends-eq0.false); upper_bound = omega (arith, c.wide.ensures.upper_bound) }
