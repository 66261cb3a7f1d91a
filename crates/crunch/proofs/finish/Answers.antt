-- `crunch::finish` meets its contract. Assumes nothing.
use mathlib.Core.Path.{refl}
use Rattle.refusals.proofs.Passing.{handed_up}
use Rattle.crunch.specs.Stands.{no}
use Rattle.crunch.proofs.End.{gives_by, counted_by}
use Rattle.crunch.proofs.finish.Goals as goal

pub finish_points-requires : goal.finish_points-requires
finish_points-requires c = counted_by c.args.points.now (rw c.in-Ended.is at c.in_ok-p.was) c.requires

pub finish_points-requires-in-Going : goal.finish_points-requires-in-Going
finish_points-requires-in-Going c = counted_by c.args.points.now (rw c.in-Going.is at c.in_ok-p.was) c.requires

pub returns-in_err-p : goal.returns-in_err-p
returns-in_err-p c =
    rw (handed_up c.from_residual.result _ c.from_residual.ensures.1) (gives_by _ c.args.points.now c.in_err-p.was (no refl))

pub returns-in-Ended : goal.returns-in-Ended
returns-in-Ended c = gives_by _ c.args.points.now (rw c.in-Ended.is at c.in_ok-p.was) c.finish_points.ensures

pub returns-in-Going : goal.returns-in-Going
returns-in-Going c = gives_by _ c.args.points.now (rw c.in-Going.is at c.in_ok-p.was) c.finish_points-in-Going.ensures
