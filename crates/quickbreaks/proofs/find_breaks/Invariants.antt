-- `quickbreaks::find_breaks` meets its contract. The loop's invariant is `Seeking`. Assumes nothing.
use Rattle.float.specs.Float.{root_of}
use Rattle.breaks.proofs.Laws.{Seeking}
use Rattle.quickbreaks.proofs.find_breaks.Given as goal

abbrev pub invariant-loop-i : goal.invariant-loop-i
invariant-loop-i l = Seeking l.samples l.len l.g l.n l.initial.row l.row l.p.count (root_of l.p.opened) l.i
