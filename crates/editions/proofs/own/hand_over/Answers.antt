-- `editions::own::hand_over` meets its contract. Assumes nothing.
use Rattle.editions.proofs.own.hand_over.Goals as goal

pub put_out-requires : goal.put_out-requires
put_out-requires c = c.requires

pub clear_work-requires : goal.clear_work-requires
clear_work-requires c = tt

pub clear_points-requires : goal.clear_points-requires
clear_points-requires c = tt

pub shape_of-samples : goal.shape_of-samples
shape_of-samples c = c.clear_work.auto.samples

pub shape_of-breaks : goal.shape_of-breaks
shape_of-breaks c = c.clear_work.auto.breaks

pub shape_of-answers : goal.shape_of-answers
shape_of-answers c = c.clear_work.auto.answers

pub shape_of-links : goal.shape_of-links
shape_of-links c = c.clear_work.auto.links

pub shape_of-points : goal.shape_of-points
shape_of-points c = c.clear_points.auto.points

pub shape_of-ox : goal.shape_of-ox
shape_of-ox c = c.put_out.auto.ox

pub shape_of-oy : goal.shape_of-oy
shape_of-oy c = c.put_out.auto.oy

pub shape_of-of : goal.shape_of-of
shape_of-of c = c.put_out.auto.of

pub returns : goal.returns
returns c =
    record {
      outs = c.put_out.ensures;
      work = c.clear_work.ensures;
      points = c.clear_points.ensures;
    }
