use mathlib.Core.Path.{ap, ◌∙◌}
use borrow.Author.Rules.{sfits_of}
use mir.Facts.{to_z-of_z}
use mathlib.Core.List.{[]}
use Rattle.rows.proofs.Filled.{start}
use Rattle.contour.proofs.Copying.{copy_more, copy_all}
use Rattle.clean.specs.Entry.{coordinate_in, spot_x}
use Rattle.clean.proofs.copy_spots.Goals as goal

pub loop-i-init : goal.loop-i-init
loop-i-init c = start _ _

pub loop-i-preserved : goal.loop-i-preserved
loop-i-preserved c =
    copy_more [] (spot_x c.args.row.now) c.args.spots.now c.args.n c.requires.0 c.loop-i.invariant c.loop-i-test.true c.requires.1
    (to_z-of_z {w = mir.Syntax.w16} (sfits_of c.at_or.type_inv) ∙ c.at_or.ensures ∙ ap (coordinate_in c.args.row.now) c.wide.ensures)

pub returns : goal.returns
returns c =
    copy_all [] (spot_x c.args.row.now) c.args.spots.now c.args.n c.requires.0 c.loop-i.invariant c.loop-i-test.false
