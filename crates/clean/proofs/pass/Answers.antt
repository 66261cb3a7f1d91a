use native.Mathlib.Omega.{arith}
use mathlib.Core.Path.{◌∙◌}
use lib.ListN.{length, length-set}
use Rattle.clean.specs.Clean.{on_place, same_place}
use Rattle.clean.proofs.Passing.{start, still_roomy, kept_room, gone_room, more, end}
use Rattle.clean.proofs.pass.Goals as goal

pub loop-i-init : goal.loop-i-init
loop-i-init c = start _ _ _ c.args.kept.now c.args.gone.now c.requires

pub bounds-kept-k : goal.bounds-kept-k
bounds-kept-k c =
    kept_room (on_place c.args.flags.now) (same_place c.args.xs.now c.args.ys.now) (length c.args.flags.now)
    (still_roomy c.args.kept.now c.requires) c.loop-i.invariant c.loop-i-test.true

pub bounds-gone-d : goal.bounds-gone-d
bounds-gone-d c =
    gone_room (on_place c.args.flags.now) (same_place c.args.xs.now c.args.ys.now) (length c.args.flags.now)
    (still_roomy c.args.kept.now c.requires) c.loop-i.invariant c.loop-i-test.true

pub next-at-requires : goal.next-at-requires
next-at-requires c =
    (omega (arith, c.loop-i.invariant.all, c.loop-i.invariant.high, c.requires.few), omega (arith, c.loop-i.invariant.all, c.loop-i.invariant.high, c.requires.few))

pub loop-i-preserved : goal.loop-i-preserved
loop-i-preserved c =
    more (on_place c.args.flags.now) (same_place c.args.xs.now c.args.ys.now) (length c.args.flags.now)
    (still_roomy c.args.kept.now c.requires) c.loop-i.invariant c.repeats-w.result c.loop-i-test.true c.repeats-w.ensures c.next-at.ensures

pub shape_of-kept : goal.shape_of-kept
shape_of-kept c = c.loop-i.invariant.same_kept ∙ length-set c.args.kept.now 0 0

pub returns : goal.returns
returns c =
    end (on_place c.args.flags.now) (same_place c.args.xs.now c.args.ys.now) (length c.args.flags.now)
    (still_roomy c.args.kept.now c.requires) c.loop-i.invariant c.loop-i-test.false
