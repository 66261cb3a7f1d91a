-- `contour::copy_flags` meets its contract, by the law of proofs/Copying.antt. Assumes nothing.
use Rattle.std.proofs.Common.{take}
use Rattle.rows.proofs.Filled.{Filled}
use Rattle.contour.specs.Output.{flags}
use Rattle.contour.proofs.copy_flags.Given as goal

abbrev pub invariant-loop-i : goal.invariant-loop-i
invariant-loop-i l = Filled (flags (take l.n l.points)) l.initial.out l.out l.i
