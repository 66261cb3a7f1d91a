use native.Mathlib.Omega.{arith}
use lib.ListN.{length}
use Rattle.idle.specs.Idle.{beside_of}
use Rattle.idle.proofs.Sifting.{start, kept_room, gone_room, more, end}
use Rattle.idle.proofs.sift.Goals as goal

pub loop-i-init : goal.loop-i-init
loop-i-init c = start _ _ c.args.kept.now c.args.gone.now

pub bounds-kept-k : goal.bounds-kept-k
bounds-kept-k c =
    kept_room (beside_of c.args.xs.now c.args.ys.now c.args.flags.now) (length c.args.flags.now) c.requires c.loop-i.invariant c.loop-i-test.true

pub bounds-gone-d : goal.bounds-gone-d
bounds-gone-d c =
    gone_room (beside_of c.args.xs.now c.args.ys.now c.args.flags.now) (length c.args.flags.now) c.requires c.loop-i.invariant c.loop-i-test.true

pub next-at-requires : goal.next-at-requires
next-at-requires c =
    (omega (arith, c.loop-i.invariant.all, c.loop-i.invariant.high, c.requires.few), omega (arith, c.loop-i.invariant.all, c.loop-i.invariant.high, c.requires.few))

pub loop-i-preserved : goal.loop-i-preserved
loop-i-preserved c =
    more (beside_of c.args.xs.now c.args.ys.now c.args.flags.now) (length c.args.flags.now) c.requires c.loop-i.invariant
    c.beside-w.result c.loop-i-test.true c.beside-w.ensures c.next-at.ensures

pub returns : goal.returns
returns c =
    end (beside_of c.args.xs.now c.args.ys.now c.args.flags.now) (length c.args.flags.now) c.requires c.loop-i.invariant c.loop-i-test.false
