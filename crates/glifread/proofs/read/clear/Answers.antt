use mathlib.Core.Path.{refl}
use native.Mathlib.Omega.{arith}
use Rattle.rows.proofs.Filled.{blank_start, blank_more, blank_all}
use Rattle.glifread.specs.Enter.{no_place}
use Rattle.glifread.proofs.read.clear.Goals as goal

pub loop-i-init : goal.loop-i-init
loop-i-init c = (refl, blank_start no_place _)

pub loop-i-preserved : goal.loop-i-preserved
loop-i-preserved c = (c.loop-i.invariant.0, blank_more no_place c.loop-i.invariant.1 (omega arith))

pub shape_of-points : goal.shape_of-points
shape_of-points c = c.loop-i.invariant.1.same

pub returns : goal.returns
returns c = blank_all no_place c.loop-i.invariant.1 (omega arith)
