-- `crunch::crunch_contour` meets its contract. Assumes nothing.
use mathlib.Core.Path.{◌∙◌}
use Rattle.edition.specs.Laws.{cleared_work}
use Rattle.crunch.proofs.Whole.{cleared_points}
use Rattle.crunch.proofs.crunch_contour.Goals as goal

pub crunch-r-requires : goal.crunch-r-requires
crunch-r-requires c = tt

pub clear_work-requires : goal.clear_work-requires
clear_work-requires c = tt

pub clear_points-requires : goal.clear_points-requires
clear_points-requires c = tt

pub shape_of-ox : goal.shape_of-ox
shape_of-ox c = c.crunch-r.auto.ox

pub shape_of-oy : goal.shape_of-oy
shape_of-oy c = c.crunch-r.auto.oy

pub shape_of-of : goal.shape_of-of
shape_of-of c = c.crunch-r.auto.of

pub shape_of-samples : goal.shape_of-samples
shape_of-samples c = c.clear_work.auto.samples ∙ c.crunch-r.auto.samples

pub shape_of-breaks : goal.shape_of-breaks
shape_of-breaks c = c.clear_work.auto.breaks ∙ c.crunch-r.auto.breaks

pub shape_of-answers : goal.shape_of-answers
shape_of-answers c = c.clear_work.auto.answers ∙ c.crunch-r.auto.answers

pub shape_of-links : goal.shape_of-links
shape_of-links c = c.clear_work.auto.links ∙ c.crunch-r.auto.links

pub shape_of-points : goal.shape_of-points
shape_of-points c = c.clear_points.auto.points ∙ c.crunch-r.auto.points

pub returns : goal.returns
returns c =
    record {
      answer = c.crunch-r.ensures.answer;
      outs = c.crunch-r.ensures.outs;
      work = cleared_work c.args.samples.now c.args.breaks.now c.args.answers.now c.args.links.now c.clear_work.ensures c.crunch-r.auto.samples c.crunch-r.auto.breaks c.crunch-r.auto.answers c.crunch-r.auto.links;
      points = cleared_points c.args.points.now c.clear_points.ensures c.crunch-r.auto.points;
    }
