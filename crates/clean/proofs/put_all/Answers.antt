use mathlib.Core.Path.{◌∙◌}
use native.Mathlib.Omega.{arith}
use Rattle.clean.proofs.Restoring.{begin, more_back, ended}
use Rattle.clean.proofs.put_all.Goals as goal

pub loop-j-init : goal.loop-j-init
loop-j-init c = begin _ _ c.args.spots.now

pub put_in-requires : goal.put_in-requires
put_in-requires c =
    (omega (arith, c.loop-j.invariant.same, c.loop-j.invariant.all, c.loop-j-test.true, c.requires.0), c.requires.1)

pub loop-j-preserved : goal.loop-j-preserved
loop-j-preserved c =
    more_back _ _ c.loop-j.invariant c.loop-j-test.true c.put_in.auto.spots
    (c.saturating_sub.ensures ∙ rw c.wide.ensures) c.put_in.ensures

pub returns : goal.returns
returns c = ended _ _ c.loop-j.invariant c.loop-j-test.false
