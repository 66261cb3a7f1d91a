-- `glyphs::renew::copy_gathered` meets its contract. Assumes nothing.
use lib.ListN.{length}
use Rattle.refusals.proofs.Passing.{handed_up}
use Rattle.glyphs.proofs.Writing.{gathered_none, gathered_all, fits_in}
use Rattle.glyphs.proofs.renew.copy_gathered.Goals as goal

pub copy_points-requires : goal.copy_points-requires
copy_points-requires c = fits_in (length c.args.points.now) (length c.args.xs.now) (length c.args.ys.now) (length c.args.flags.now) c.in_ok-n.was c.requires

pub returns-in_err-n : goal.returns-in_err-n
returns-in_err-n c = rw (handed_up c.from_residual.result _ c.from_residual.ensures.1) (λ ends o gathers. gathered_none c.args.settings c.args.points.now gathers c.in_err-n.was)

pub returns : goal.returns
returns c = λ ends o gathers. gathered_all c.args.settings c.args.points.now gathers c.in_ok-n.was c.copy_points.ensures
