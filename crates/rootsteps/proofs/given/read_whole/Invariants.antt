-- The number is below 10 ^ 15.
use Rattle.std.proofs.Common.{◌^◌, ◌<◌}
use Rattle.rootsteps.proofs.given.read_whole.Given as goal

abbrev pub invariant-loop-b : goal.invariant-loop-b
invariant-loop-b l = l.v < 10 ^ 15
