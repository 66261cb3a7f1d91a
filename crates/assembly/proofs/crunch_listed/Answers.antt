-- `assembly::crunch_listed` meets its contract. Assumes nothing.
use mathlib.Core.Path.{refl, ◌∙◌}
use Rattle.assembly.proofs.Going.{closed_stand, points_stand}
use Rattle.assembly.proofs.crunch_listed.Goals as goal

pub crunch_round-requires : goal.crunch_round-requires
crunch_round-requires c = c.requires.0

pub shape_of-samples-then-settings : goal.shape_of-samples-then-settings
shape_of-samples-then-settings c = c.crunch_round.auto.samples

pub shape_of-breaks-then-settings : goal.shape_of-breaks-then-settings
shape_of-breaks-then-settings c = c.crunch_round.auto.breaks

pub shape_of-answers-then-settings : goal.shape_of-answers-then-settings
shape_of-answers-then-settings c = c.crunch_round.auto.answers

pub shape_of-links-then-settings : goal.shape_of-links-then-settings
shape_of-links-then-settings c = c.crunch_round.auto.links

pub shape_of-points-then-settings : goal.shape_of-points-then-settings
shape_of-points-then-settings c = c.crunch_round.auto.points

pub returns-then-settings : goal.returns-then-settings
returns-then-settings c = closed_stand _ _ _ _ _ c.requires.1 c.if-settings.true c.crunch_round.ensures

pub start-w-requires : goal.start-w-requires
start-w-requires c = tt

pub crunch_runs-requires : goal.crunch_runs-requires
crunch_runs-requires c = (c.requires.0, refl)

pub shape_of-samples : goal.shape_of-samples
shape_of-samples c = c.crunch_runs.auto.samples

pub shape_of-breaks : goal.shape_of-breaks
shape_of-breaks c = c.crunch_runs.auto.breaks

pub shape_of-answers : goal.shape_of-answers
shape_of-answers c = c.crunch_runs.auto.answers

pub shape_of-links : goal.shape_of-links
shape_of-links c = c.crunch_runs.auto.links

pub shape_of-points : goal.shape_of-points
shape_of-points c = c.crunch_runs.auto.points ∙ c.start-w.auto.points

pub returns : goal.returns
returns c =
    points_stand _ _ _ _ _ c.requires.1 c.if-settings.false c.start-w.auto.points c.start-w.ensures c.crunch_runs.ensures
