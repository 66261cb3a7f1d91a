-- The line under way is what is left of the bytes so far. The measure is what is left of the chunk.
use Rattle.std.proofs.Common.{◌-◌, length}
use Rattle.fontcrunch_cli.proofs.Streaming.{Gone}
use Rattle.fontcrunch_cli.proofs.take_chunk.Given as goal

abbrev pub invariant-loop-i : goal.invariant-loop-i
invariant-loop-i g l = Gone l.order l.initial.line l.from l.chunk l.line l.used l.i

abbrev pub decreases-loop-i : goal.decreases-loop-i
decreases-loop-i g l = length l.chunk - l.i
