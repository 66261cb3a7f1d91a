use mathlib.Core.Path.{refl, sym, ◌∙◌}
use Rattle.explicit.proofs.Turning.{turned_at, length_turned, put_start, put_more, put_end}
use Rattle.explicit.proofs.put_all.Goals as goal

pub loop-k-init : goal.loop-k-init
loop-k-init c = put_start _ _ c.nothing-w.ensures

pub place_from-requires : goal.place_from-requires
place_from-requires c = (c.requires, c.loop-k-test.true)

pub point_at-p-requires : goal.point_at-p-requires
point_at-p-requires c =
    rw c.place_from.ensures (turned_at c.args.xs.now c.args.ys.now c.args.flags.now c.args.start c.loop-k.k c.requires c.loop-k-test.true).0

pub loop-k-preserved : goal.loop-k-preserved
loop-k-preserved c =
    let at = (turned_at c.args.xs.now c.args.ys.now c.args.flags.now c.args.start c.loop-k.k c.requires c.loop-k-test.true).1 in
    put_more c.loop-k.invariant (rw (length_turned c.args.xs.now c.args.ys.now c.args.flags.now c.args.start c.requires) c.loop-k-test.true) (c.point_at-p.ensures ∙ rw c.place_from.ensures (sym at)) c.put_next-w.auto.points c.put_next-w.ensures

pub returns : goal.returns
returns c =
    put_end c.loop-k.invariant (rw (length_turned c.args.xs.now c.args.ys.now c.args.flags.now c.args.start c.requires) c.loop-k-test.false) refl
