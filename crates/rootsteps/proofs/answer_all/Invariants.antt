-- The place stays in the input.
use Rattle.std.proofs.Common.{◌-◌, ◌≤◌, length}
use Rattle.rootsteps.proofs.answer_all.Given as goal

abbrev pub invariant-loop-i : goal.invariant-loop-i
invariant-loop-i g l = l.i ≤ length l.input

abbrev pub decreases-loop-i : goal.decreases-loop-i
decreases-loop-i g l = length l.input - l.i
