use Rattle.std.proofs.Common.{refl, pos, replicate}
use Rattle.rows.specs.Rows.{zero_work, point_zero}
use Rattle.contour.specs.Output.{outputs}
use Rattle.answering.proofs.Answers.{fits, says}
use Rattle.answering.proofs.put_full.Goals as goal

pub put_outcome-requires : goal.put_outcome-requires
put_outcome-requires c =
    fits (replicate 16384 (pos 0)) (replicate 16384 (pos 0)) (replicate 16384 0) (zero_work 16384 2048 4096 4096) (replicate 16384 point_zero)
    c.args.order c.args.xs.now c.args.ys.now c.args.flags.now c.crunch_contour-c.ensures.answer c.crunch_contour-c.auto.ox c.crunch_contour-c.auto.oy c.crunch_contour-c.auto.of

pub returns : goal.returns
returns c =
    says (replicate 16384 (pos 0)) (replicate 16384 (pos 0)) (replicate 16384 0) (zero_work 16384 2048 4096 4096) (replicate 16384 point_zero)
    c.args.order c.args.xs.now c.args.ys.now c.args.flags.now c.crunch_contour-c.ensures.answer
    {o = outputs c.crunch_contour-c.new.ox c.crunch_contour-c.new.oy c.crunch_contour-c.new.of} refl c.crunch_contour-c.ensures.outs c.put_outcome.ensures
