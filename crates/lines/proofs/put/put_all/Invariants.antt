-- The loop's invariant: the rest of the text, put from here, makes the whole.
use Rattle.std.proofs.Common.{drop}
use Rattle.lines.proofs.Texts.{Going}
use Rattle.lines.proofs.put.put_all.Given as goal

abbrev pub invariant-loop-b : goal.invariant-loop-b
invariant-loop-b l = Going l.initial.out l.at l.text l.out l.a (drop l.b-index l.text)
