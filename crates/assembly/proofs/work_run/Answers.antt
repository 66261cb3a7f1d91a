-- `assembly::work_run` meets its contract. Assumes nothing.
use Rattle.assembly.proofs.Run.{worked, worked_so, sighted}
use Rattle.assembly.proofs.work_run.Goals as goal

pub grid-requires : goal.grid-requires
grid-requires c = tt

pub survey-s-requires : goal.survey-s-requires
survey-s-requires c = tt

pub after_survey-requires : goal.after_survey-requires
after_survey-requires c =
    (sighted c.args.xs.now c.args.ys.now c.args.flags.now c.args.first c.args.count c.grid.result c.survey-s.new.samples c.survey-s.new.breaks c.survey-s.result _ _ c.survey-s.ensures.rows c.survey-s.ensures.samples c.survey-s.ensures.breaks c.survey-s.auto.samples c.survey-s.auto.breaks, c.requires)

pub shape_of-samples : goal.shape_of-samples
shape_of-samples c = c.survey-s.auto.samples

pub shape_of-breaks : goal.shape_of-breaks
shape_of-breaks c = c.survey-s.auto.breaks

pub shape_of-answers : goal.shape_of-answers
shape_of-answers c = c.after_survey.auto.answers

pub shape_of-links : goal.shape_of-links
shape_of-links c = c.after_survey.auto.links

pub shape_of-points : goal.shape_of-points
shape_of-points c = c.after_survey.auto.points

pub returns : goal.returns
returns c =
    let is = worked c.args.xs.now c.args.ys.now c.args.flags.now c.args.first c.args.count c.grid.result c.survey-s.new.samples c.survey-s.new.breaks c.survey-s.result _ c.survey-s.ensures.rows _ c.grid.ensures in
    record { stands = λ ps wrote. worked_so _ ps _ is (c.after_survey.ensures.stands ps wrote); few = c.after_survey.ensures.few }
