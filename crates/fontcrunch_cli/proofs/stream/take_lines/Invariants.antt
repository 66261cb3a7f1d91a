-- What is put is the output for the lines that ended so far. The measure is what is left of the chunk.
use Rattle.std.proofs.Common.{◌-◌, ◌≤◌, length}
use Rattle.fontcrunch_cli.specs.Stream.{Reaches}
use Rattle.fontcrunch_cli.proofs.stream.take_lines.Given as goal

abbrev pub invariant-loop-i : goal.invariant-loop-i
invariant-loop-i l = Reaches l.order l.initial.text l.initial.line l.from l.chunk l.first l.text l.line l.used l.at l.i × (l.first ≤ l.i)

abbrev pub decreases-loop-i : goal.decreases-loop-i
decreases-loop-i l = length l.chunk - l.i
