-- `glyfread::walk::down` meets its contract. Assumes nothing.
use native.Mathlib.Omega.{arith}
use Rattle.glyfread.proofs.Signs.{down_fits, down_is}
use Rattle.glyfread.proofs.walk.down.Goals as goal

pub overflow_sub-result : goal.overflow_sub-result
overflow_sub-result c = down_fits c.args.b (omega arith)

pub returns : goal.returns
returns c = down_is c.args.b (omega arith)
