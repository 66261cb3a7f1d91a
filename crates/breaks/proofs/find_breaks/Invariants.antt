-- `breaks::find_breaks` meets its contract. The loop's invariant is `Seeking`. Assumes nothing.
use Rattle.breaks.proofs.Laws.{Seeking}
use Rattle.breaks.proofs.find_breaks.Given as goal

abbrev pub invariant-loop-i : goal.invariant-loop-i
invariant-loop-i l = Seeking l.samples l.len l.g l.n l.initial.row l.row l.p.count l.p.opened l.i
