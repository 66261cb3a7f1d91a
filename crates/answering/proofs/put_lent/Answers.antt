use Rattle.rows.specs.Rows.{work}
use Rattle.contour.specs.Output.{outputs}
use Rattle.answering.proofs.Answers.{fits, says, short_same}
use Rattle.answering.proofs.put_lent.Goals as goal

pub put_outcome-requires : goal.put_outcome-requires
put_outcome-requires c =
    fits c.args.ox.now c.args.oy.now c.args.of.now (work c.args.samples.now c.args.breaks.now c.args.answers.now c.args.links.now) c.args.points.now
    c.args.order c.args.xs.now c.args.ys.now c.args.flags.now c.crunch_contour-c.ensures.answer c.crunch_contour-c.auto.ox c.crunch_contour-c.auto.oy c.crunch_contour-c.auto.of

pub returns : goal.returns
returns c =
    says c.args.ox.now c.args.oy.now c.args.of.now (work c.args.samples.now c.args.breaks.now c.args.answers.now c.args.links.now) c.args.points.now
    c.args.order c.args.xs.now c.args.ys.now c.args.flags.now c.crunch_contour-c.ensures.answer
    {o = outputs c.crunch_contour-c.new.ox c.crunch_contour-c.new.oy c.crunch_contour-c.new.of}
    (short_same c.args.ox.now c.args.oy.now c.args.of.now (work c.args.samples.now c.args.breaks.now c.args.answers.now c.args.links.now) c.args.points.now
    c.args.order c.args.xs.now c.args.ys.now c.args.flags.now c.crunch_contour-c.ensures.answer c.requires.0 c.requires.1 c.is_short.ensures c.if-is_short.false)
    c.crunch_contour-c.ensures.outs c.put_outcome.ensures
