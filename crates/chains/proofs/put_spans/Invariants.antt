-- `chains::put_spans` meets its contract. The loop's invariant is `Filled`. Assumes nothing.
use lib.ListN.{take}
use Rattle.rows.proofs.Filled.{Filled}
use Rattle.chains.specs.Spans.{spans_from}
use Rattle.chains.proofs.put_spans.Given as goal

abbrev pub invariant-loop-i : goal.invariant-loop-i
invariant-loop-i l = Filled (spans_from l.breaks (take l.n l.starts) (take l.n l.ends)) l.initial.spans l.spans l.i
