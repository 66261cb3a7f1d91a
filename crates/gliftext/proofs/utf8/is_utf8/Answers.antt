use native.Mathlib.Omega.{arith}
use Rattle.gliftext.proofs.Tables.{runs_from, runs_on, runs_out}
use Rattle.gliftext.proofs.utf8.is_utf8.Goals as goal

pub loop-b-init : goal.loop-b-init
loop-b-init c = runs_from _

pub loop-b-preserved : goal.loop-b-preserved
loop-b-preserved c = runs_on _ _ c.loop-b.invariant c.rune_class.ensures c.rune_on-state.ensures

pub returns : goal.returns
returns c = runs_out _ (omega arith) (omega arith) c.loop-b.invariant
