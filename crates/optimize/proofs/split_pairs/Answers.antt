-- `optimize::split_pairs` meets its contract. Assumes nothing.
use native.Mathlib.Omega.{arith}
use Rattle.optimize.specs.Laws.{split_pairs}
use Rattle.optimize.proofs.split_pairs.Goals as goal

pub returns-then-n-eq0 : goal.returns-then-n-eq0
returns-then-n-eq0 c = omega (arith, split_pairs c.args.n, c.if-n-eq0.true)

pub returns-else-n-eq0 : goal.returns-else-n-eq0
returns-else-n-eq0 c = omega (arith, split_pairs c.args.n)
