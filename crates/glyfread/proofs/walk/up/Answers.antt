-- `glyfread::walk::up` meets its contract. Assumes nothing.
use native.Mathlib.Omega.{arith}
use Rattle.glyfread.proofs.Signs.{up_is}
use Rattle.glyfread.proofs.walk.up.Goals as goal

pub returns : goal.returns
returns c = up_is _ (omega arith)
