-- The place lies in the row.
use Rattle.std.proofs.Common.{◌≤◌, length}
use Rattle.fontcrunch_cli.proofs.asked.Given as goal

abbrev pub invariant-loop-i : goal.invariant-loop-i
invariant-loop-i g l = l.at ≤ length l.row
