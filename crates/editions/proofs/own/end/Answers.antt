-- `editions::own::end` meets its contract. Assumes nothing.
use native.Mathlib.Omega.{arith}
use mathlib.Core.Path.{◌∙◌}
use Rattle.crunch.proofs.End.{counted, gives_outcome}
use Rattle.editions.proofs.Alone.{ends_open, ends_none, ends_round, comes_so}
use Rattle.editions.proofs.own.end.Goals as goal

pub finish-requires : goal.finish-requires
finish-requires c = counted c.requires.stands

pub shape_of-points-then-stops-eq0 : goal.shape_of-points-then-stops-eq0
shape_of-points-then-stops-eq0 c = c.finish.auto.points

pub returns-then-stops-eq0 : goal.returns-then-stops-eq0
returns-then-stops-eq0 c =
    λ x stands. comes_so _ _ (ends_none c.args.xs.now c.args.ys.now c.args.flags.now x c.args.stops.now c.if-closed.true c.if-stops-eq0.true) (gives_outcome _ stands c.finish.ensures)

pub bounds-stops-0 : goal.bounds-stops-0
bounds-stops-0 c = omega (arith, c.if-stops-eq0.false)

pub start_of-requires : goal.start_of-requires
start_of-requires c = tt

pub point_as-s-requires : goal.point_as-s-requires
point_as-s-requires c = tt

pub close_up-d-requires : goal.close_up-d-requires
close_up-d-requires c = tt

pub finish-requires-then-closed : goal.finish-requires-then-closed
finish-requires-then-closed c = counted (c.close_up-d.ensures _ c.requires.stands)

pub shape_of-points-then-closed : goal.shape_of-points-then-closed
shape_of-points-then-closed c = c.finish-then-closed.auto.points ∙ c.close_up-d.auto.points

pub returns-then-closed : goal.returns-then-closed
returns-then-closed c =
    λ x stands. comes_so _ _ (ends_round c.args.xs.now c.args.ys.now c.args.flags.now x c.args.stops.now c.if-closed.true c.if-stops-eq0.false c.start_of.ensures c.point_as-s.ensures) (gives_outcome _ (c.close_up-d.ensures x stands) c.finish-then-closed.ensures)

pub finish-requires-2 : goal.finish-requires-2
finish-requires-2 c = counted c.requires.stands

pub shape_of-points : goal.shape_of-points
shape_of-points c = c.finish-2.auto.points

pub returns : goal.returns
returns c =
    λ x stands. comes_so _ _ (ends_open c.args.xs.now c.args.ys.now c.args.flags.now x c.args.stops.now c.if-closed.false) (gives_outcome _ stands c.finish-2.ensures)
