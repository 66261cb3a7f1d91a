-- `crunch::finish_points` meets its contract. Assumes nothing.
use Rattle.crunch.proofs.End.{over_gives, all_gives}
use Rattle.crunch.proofs.finish_points.Goals as goal

pub returns-then-w : goal.returns-then-w
returns-then-w c = over_gives c.args.closed c.args.points.now c.args.p c.if-w.true

pub finish-points-requires : goal.finish-points-requires
finish-points-requires c = c.requires

pub shape_of-points : goal.shape_of-points
shape_of-points c = c.finish-points.auto.points

pub returns : goal.returns
returns c = all_gives c.args.closed c.args.points.now c.args.p c.if-w.false c.finish-points.ensures
