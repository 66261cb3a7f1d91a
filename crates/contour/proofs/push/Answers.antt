-- `contour::push` meets its contract. Assumes nothing.
use Rattle.std.proofs.Common.{arith, length-set}
use Rattle.contour.proofs.Pushing.{push_fits, push_full}
use Rattle.contour.proofs.push.Goals as goal

pub returns-then-at-points : goal.returns-then-at-points
returns-then-at-points c =
    record { within = simp length-set (omega arith); is = push_fits c.args.points.now c.args.w.count c.args.w.over c.args.p c.if-at-points.true }

pub returns : goal.returns
returns c =
    record { within = omega arith; is = push_full c.args.points.now c.args.w.count c.args.w.over c.args.p c.if-at-points.false }
