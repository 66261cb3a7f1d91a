-- `glyfwrite::difference::steps_fit` meets its contract. Assumes nothing.
use mathlib.Core.Path.{◌≡◌}
use lib.IntN.{pos}
use lib.ListN.{drop}
use Rattle.glyf.specs.Layout.{all16, steps}
use Rattle.glyfwrite.proofs.difference.steps_fit.Given as goal

abbrev pub invariant-loop-z : goal.invariant-loop-z
invariant-loop-z l = all16 (steps (pos 0) l.row) ≡ all16 (steps l.last (drop l.z-index l.row))
