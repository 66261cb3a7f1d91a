-- `glifread::read::clear` meets its contract. By the law of rows. Assumes nothing.
use Prim.Native.Nat.{◌-◌}
use mathlib.Core.Path.{◌≡◌}
use lib.ListN.{length, replicate}
use Rattle.rows.proofs.Filled.{Filled}
use Rattle.glifread.specs.Enter.{no_place}
use Rattle.glifread.proofs.read.clear.Given as goal

abbrev pub invariant-loop-i : goal.invariant-loop-i
invariant-loop-i l = (l.i-end ≡ length l.initial.points) × Filled (replicate (length l.initial.points) no_place) l.initial.points l.points l.i

abbrev pub decreases-loop-i : goal.decreases-loop-i
decreases-loop-i l = l.i-end - l.i
