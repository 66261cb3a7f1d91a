use mathlib.Core.List.{[]}
use native.Mathlib.Omega.{arith}
use Rattle.rows.proofs.Filled.{start}
use Rattle.segments.specs.Segments.{named_of}
use Rattle.segments.proofs.Going.{make_more}
use Rattle.segments.proofs.name_each.Goals as goal

pub loop-b-init : goal.loop-b-init
loop-b-init c = start _ _

pub loop-b-preserved : goal.loop-b-preserved
loop-b-preserved c = make_more (named_of _ _ _) [] _ c.loop-b.invariant (omega arith) c.named.ensures
