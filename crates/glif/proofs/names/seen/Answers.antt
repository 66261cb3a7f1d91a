use native.Mathlib.Omega.{arith}
use Rattle.glif.proofs.Naming.{seen_none, seen_more, seen_all}
use Rattle.glif.proofs.names.seen.Goals as goal

pub loop-k-init : goal.loop-k-init
loop-k-init c = seen_none _ _ _ _

pub loop-k-preserved : goal.loop-k-preserved
loop-k-preserved c = seen_more _ _ _ _ _ c.loop-k.invariant c.plus.ensures c.at.ensures c.same_name.ensures c.either-found.ensures

pub returns : goal.returns
returns c = seen_all _ _ _ _ _ (omega arith) (omega arith) c.loop-k.invariant
