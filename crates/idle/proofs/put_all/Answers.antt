use native.Mathlib.Omega.{arith}
use Rattle.idle.proofs.Restoring.{start, low, more, all}
use Rattle.idle.proofs.put_all.Goals as goal

pub loop-p-init : goal.loop-p-init
loop-p-init c = start c.args.kept c.args.list.now c.args.n c.args.spots.now

pub spot_at-requires : goal.spot_at-requires
spot_at-requires c =
    (low c.args.kept c.args.list.now c.loop-p.invariant, omega (arith, c.loop-p-test.true, c.requires.1), c.requires.2)

pub passed-j-requires : goal.passed-j-requires
passed-j-requires c =
    (low c.args.kept c.args.list.now c.loop-p.invariant, omega (arith, c.loop-p-test.true, c.requires.1))

pub loop-p-preserved : goal.loop-p-preserved
loop-p-preserved c =
    more c.args.kept c.args.list.now c.loop-p.invariant c.loop-p-test.true c.requires.0 c.spot_at.ensures c.passed-j.ensures

pub returns : goal.returns
returns c = all c.args.kept c.args.list.now c.loop-p.invariant c.loop-p-test.false
