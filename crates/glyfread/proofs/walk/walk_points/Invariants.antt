-- `glyfread::walk::walk_points` meets its contract. Assumes nothing.
use Rattle.glyfread.proofs.Filling.{Walking}
use Rattle.glyfread.proofs.walk.walk_points.Given as goal

abbrev pub invariant-loop-i : goal.invariant-loop-i
invariant-loop-i l = Walking l.bytes l.count l.initial.w l.initial.xs l.initial.ys l.initial.flags l.xs l.ys l.flags l.w l.i
