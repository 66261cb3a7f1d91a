-- `glyfwrite::bounds::outermost_of` meets its contract. Assumes nothing.
use mathlib.Core.Path.{◌≡◌}
use lib.ListN.{drop}
use Rattle.glyfwrite.specs.Outermost.{outermost, outermost_from}
use Rattle.glyfwrite.proofs.bounds.outermost_of.Given as goal

abbrev pub invariant-loop-i : goal.invariant-loop-i
invariant-loop-i l = outermost l.high l.row ≡ outermost_from l.high l.z (drop l.i l.row)
