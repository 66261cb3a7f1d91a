-- `assembly::crunch_round` meets its contract. Assumes nothing.
use native.Mathlib.Omega.{arith}
use mathlib.Core.Path.{refl, ◌∙◌}
use Rattle.rows.specs.Rows.{work}
use Rattle.edition.specs.Scratch.{rooms_of}
use Rattle.assembly.proofs.Going.{no_stops, round_stands}
use Rattle.assembly.proofs.crunch_round.Goals as goal

pub unchanged_in-w-requires : goal.unchanged_in-w-requires
unchanged_in-w-requires c = tt

pub shape_of-points-then-stops-eq0 : goal.shape_of-points-then-stops-eq0
shape_of-points-then-stops-eq0 c = c.unchanged_in-w.auto.points

pub returns-then-stops-eq0 : goal.returns-then-stops-eq0
returns-then-stops-eq0 c =
    no_stops (rooms_of (work c.args.samples.now c.args.breaks.now c.args.answers.now c.args.links.now)) c.args.settings c.args.xs.now c.args.ys.now c.args.flags.now
    c.args.stops.now c.if-stops-eq0.true c.unchanged_in-w.ensures

pub bounds-stops-0 : goal.bounds-stops-0
bounds-stops-0 c = omega arith

pub start_of-requires : goal.start_of-requires
start_of-requires c = tt

pub point_as-s-requires : goal.point_as-s-requires
point_as-s-requires c = tt

pub nothing-requires : goal.nothing-requires
nothing-requires c = tt

pub crunch_runs-c-requires : goal.crunch_runs-c-requires
crunch_runs-c-requires c = (c.requires, refl)

pub close_up-requires : goal.close_up-requires
close_up-requires c = tt

pub shape_of-samples : goal.shape_of-samples
shape_of-samples c = c.crunch_runs-c.auto.samples

pub shape_of-breaks : goal.shape_of-breaks
shape_of-breaks c = c.crunch_runs-c.auto.breaks

pub shape_of-answers : goal.shape_of-answers
shape_of-answers c = c.crunch_runs-c.auto.answers

pub shape_of-links : goal.shape_of-links
shape_of-links c = c.crunch_runs-c.auto.links

pub shape_of-points : goal.shape_of-points
shape_of-points c = c.close_up.auto.points ∙ c.crunch_runs-c.auto.points

pub returns : goal.returns
returns c =
    round_stands _ _ _ _ _ c.args.stops.now c.if-stops-eq0.false c.start_of.ensures c.point_as-s.ensures c.nothing.ensures c.crunch_runs-c.ensures
    c.crunch_runs-c.auto.points c.close_up.ensures
