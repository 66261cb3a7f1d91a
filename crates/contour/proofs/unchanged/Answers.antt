use Rattle.contour.proofs.Pushing.{going_start, going_more, gone}
use Rattle.contour.proofs.unchanged.Goals as goal

pub loop-k-init : goal.loop-k-init
loop-k-init c = going_start c.start-w.auto.points c.start-w.ensures

pub loop-k-preserved : goal.loop-k-preserved
loop-k-preserved c =
    going_more c.loop-k.invariant c.loop-k-test.true c.read_from.ensures c.push_seg-w.auto.points c.push_seg-w.ensures c.end_of-a.ensures

pub returns : goal.returns
returns c =
    gone c.loop-k.invariant c.loop-k-test.false c.count-m.ensures c.start-w.auto.points
