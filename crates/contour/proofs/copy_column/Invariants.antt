-- `contour::copy_column` meets its contract, by the law of proofs/Copying.antt. Assumes nothing.
use Rattle.std.proofs.Common.{take}
use Rattle.rows.proofs.Filled.{Filled}
use Rattle.contour.specs.Output.{column}
use Rattle.contour.proofs.copy_column.Given as goal

abbrev pub invariant-loop-i : goal.invariant-loop-i
invariant-loop-i l = Filled (column l.k (take l.n l.points)) l.initial.out l.out l.i
