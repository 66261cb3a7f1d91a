-- The loop's invariant: the digits from here on, after v, say what they all say.
use Rattle.std.proofs.Common.{◌≡◌, ◌≤◌, drop}
use Rattle.lines.specs.Line.{natural_of, digits_on}
use Rattle.lines.specs.Steps.{size_of}
use Rattle.lines.proofs.word.read_size.Given as goal

abbrev pub invariant-loop-b : goal.invariant-loop-b
invariant-loop-b l = (l.v ≤ 4294967296) × (size_of (natural_of l.digits) ≡ size_of (digits_on l.v (drop l.b-index l.digits)))
