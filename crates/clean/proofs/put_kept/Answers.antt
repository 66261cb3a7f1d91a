use mathlib.Core.Path.{refl}
use Rattle.rows.proofs.Filled.{start}
use Rattle.clean.specs.PutBack.{kept_spot}
use Rattle.clean.proofs.Restoring.{number_more, number_all}
use Rattle.clean.proofs.put_kept.Goals as goal

pub loop-i-init : goal.loop-i-init
loop-i-init c = start _ _

pub loop-i-preserved : goal.loop-i-preserved
loop-i-preserved c = number_more kept_spot _ c.loop-i.invariant c.loop-i-test.true c.requires.0 refl

pub returns : goal.returns
returns c = number_all kept_spot _ c.loop-i.invariant c.loop-i-test.false
