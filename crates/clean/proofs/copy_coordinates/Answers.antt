use mathlib.Core.Path.{◌∙◌}
use borrow.Author.Rules.{sfits_of}
use mir.Facts.{to_z-of_z}
use Rattle.rows.proofs.Filled.{start}
use Rattle.contour.proofs.Copying.{copy_more, copy_all}
use Rattle.clean.specs.Entry.{coordinate_in}
use Rattle.clean.proofs.copy_coordinates.Goals as goal

pub loop-i-init : goal.loop-i-init
loop-i-init c = start _ _

pub loop-i-preserved : goal.loop-i-preserved
loop-i-preserved c =
    copy_more 0 (coordinate_in c.args.row.now) c.args.numbers.now c.args.n c.requires.0 c.loop-i.invariant c.loop-i-test.true c.requires.1
    (to_z-of_z {w = mir.Syntax.w16} (sfits_of c.at_or.type_inv) ∙ c.at_or.ensures)

pub returns : goal.returns
returns c =
    copy_all 0 (coordinate_in c.args.row.now) c.args.numbers.now c.args.n c.requires.0 c.loop-i.invariant c.loop-i-test.false
