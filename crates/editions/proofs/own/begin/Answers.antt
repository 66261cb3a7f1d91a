-- `editions::own::begin` meets its contract. Assumes nothing.
use Rattle.editions.proofs.Alone.{begins_refused, begins_start, begins_ended, begins_round}
use Rattle.editions.proofs.own.begin.Goals as goal

pub is_fine-requires : goal.is_fine-requires
is_fine-requires c = tt

pub unchanged_in-w-requires : goal.unchanged_in-w-requires
unchanged_in-w-requires c = tt

pub shape_of-points-then-stops-eq0 : goal.shape_of-points-then-stops-eq0
shape_of-points-then-stops-eq0 c = c.unchanged_in-w.auto.points

pub returns-then-stops-eq0 : goal.returns-then-stops-eq0
returns-then-stops-eq0 c = begins_ended c.args.settings c.args.xs.now c.args.ys.now c.args.flags.now c.args.stops.now c.is_fine.ensures c.if-is_fine.true c.if-settings.true c.if-stops-eq0.true c.unchanged_in-w.ensures

pub nothing-requires : goal.nothing-requires
nothing-requires c = tt

pub returns-then-settings : goal.returns-then-settings
returns-then-settings c = begins_round c.args.settings c.args.xs.now c.args.ys.now c.args.flags.now c.args.stops.now c.is_fine.ensures c.if-is_fine.true c.if-settings.true c.if-stops-eq0.false c.nothing.ensures

pub start-w-requires : goal.start-w-requires
start-w-requires c = tt

pub shape_of-points-then-is_fine : goal.shape_of-points-then-is_fine
shape_of-points-then-is_fine c = c.start-w.auto.points

pub returns-then-is_fine : goal.returns-then-is_fine
returns-then-is_fine c = begins_start c.args.settings c.args.xs.now c.args.ys.now c.args.flags.now c.args.stops.now c.is_fine.ensures c.if-is_fine.true c.if-settings.false c.start-w.ensures

pub returns : goal.returns
returns c = begins_refused c.args.settings c.args.xs.now c.args.ys.now c.args.flags.now c.args.stops.now c.is_fine.ensures c.if-is_fine.false
