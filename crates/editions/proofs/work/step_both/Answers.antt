-- `editions::work::step_both` meets its contract. Assumes nothing.
use mathlib.Core.Path.{ap, ◌∙◌}
use Rattle.rows.specs.Rows.{work}
use Rattle.settings.specs.Settings.{grid_of}
use Rattle.edition.specs.Scratch.{rooms_of}
use Rattle.assembly.proofs.Run.{sighted}
use Rattle.editions.specs.Editions.{settings_a, settings_b}
use Rattle.editions.proofs.Steps.{step_moves}
use Rattle.editions.proofs.work.step_both.Goals as goal

pub a-requires : goal.a-requires
a-requires c = tt

pub grid-requires : goal.grid-requires
grid-requires c = tt

pub survey-s-requires : goal.survey-s-requires
survey-s-requires c = tt

pub a-requires-2 : goal.a-requires-2
a-requires-2 c = tt

pub take_step-a-requires : goal.take_step-a-requires
take_step-a-requires c =
    (sighted c.args.xs.now c.args.ys.now c.args.flags.now c.args.first c.args.count c.grid.result c.survey-s.new.samples c.survey-s.new.breaks c.survey-s.result _ _ c.survey-s.ensures.rows c.survey-s.ensures.samples c.survey-s.ensures.breaks c.survey-s.auto.samples c.survey-s.auto.breaks, c.requires.0)

pub b-requires : goal.b-requires
b-requires c = tt

pub take_step-b-requires : goal.take_step-b-requires
take_step-b-requires c =
    (sighted c.args.xs.now c.args.ys.now c.args.flags.now c.args.first c.args.count c.grid.result c.survey-s.new.samples c.survey-s.new.breaks c.survey-s.result _ _ c.survey-s.ensures.rows c.survey-s.ensures.samples c.survey-s.ensures.breaks c.survey-s.auto.samples c.survey-s.auto.breaks, c.requires.1)

pub shape_of-samples : goal.shape_of-samples
shape_of-samples c = c.survey-s.auto.samples

pub shape_of-breaks : goal.shape_of-breaks
shape_of-breaks c = c.survey-s.auto.breaks

pub shape_of-answers_a : goal.shape_of-answers_a
shape_of-answers_a c = c.take_step-a.auto.answers

pub shape_of-links_a : goal.shape_of-links_a
shape_of-links_a c = c.take_step-a.auto.links

pub shape_of-points_a : goal.shape_of-points_a
shape_of-points_a c = c.take_step-a.auto.points

pub shape_of-answers_b : goal.shape_of-answers_b
shape_of-answers_b c = c.take_step-b.auto.answers

pub shape_of-links_b : goal.shape_of-links_b
shape_of-links_b c = c.take_step-b.auto.links

pub shape_of-points_b : goal.shape_of-points_b
shape_of-points_b c = c.take_step-b.auto.points

pub returns : goal.returns
returns c =
    let grid = c.grid.ensures ∙ ap grid_of c.a.ensures in record { a = step_moves (rooms_of (work c.args.samples.now c.args.breaks.now c.args.answers_a.now c.args.links_a.now)) c.args.xs.now c.args.ys.now c.args.flags.now (record { first = c.args.first; count = c.args.count }) c.survey-s.new.samples c.survey-s.new.breaks c.survey-s.result c.grid.result c.survey-s.ensures.rows (settings_a c.args.order) c.a-2.ensures grid c.take_step-a.ensures; b = step_moves (rooms_of (work c.args.samples.now c.args.breaks.now c.args.answers_b.now c.args.links_b.now)) c.args.xs.now c.args.ys.now c.args.flags.now (record { first = c.args.first; count = c.args.count }) c.survey-s.new.samples c.survey-s.new.breaks c.survey-s.result c.grid.result c.survey-s.ensures.rows (settings_b c.args.order) c.b.ensures grid c.take_step-b.ensures }
