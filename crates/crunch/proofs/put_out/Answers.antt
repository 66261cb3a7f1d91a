-- `crunch::put_out` meets its contract. Assumes nothing.
use Rattle.contour.specs.Output.{outputs}
use Rattle.crunch.proofs.End.{refused_out, points_out_lem, fits_out}
use Rattle.crunch.proofs.put_out.Goals as goal

pub copy_out-requires : goal.copy_out-requires
copy_out-requires c =
    fits_out c.args.points.now c.args.ox.now c.args.oy.now c.args.of.now c.in-Ok.is c.requires

pub returns-in_default : goal.returns-in_default
returns-in_default c =
    refused_out c.args.points.now (outputs c.args.ox.now c.args.oy.now c.args.of.now) c.in_default.is

pub returns-in-Ok : goal.returns-in-Ok
returns-in-Ok c =
    points_out_lem c.args.points.now (outputs c.args.ox.now c.args.oy.now c.args.of.now) c.in-Ok.is c.copy_out.ensures
