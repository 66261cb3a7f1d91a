use mathlib.Core.Path.{◌∙◌}
use mathlib.Core.List.{[]}
use Rattle.rows.proofs.Filled.{start}
use Rattle.contour.proofs.Copying.{copy_more, copy_all}
use Rattle.clean.specs.Entry.{spot_bit}
use Rattle.clean.proofs.copy_bits.Goals as goal

pub loop-i-init : goal.loop-i-init
loop-i-init c = start _ _

pub loop-i-preserved : goal.loop-i-preserved
loop-i-preserved c =
    copy_more [] (spot_bit c.args.row.now) c.args.spots.now c.args.n c.requires.0 c.loop-i.invariant c.loop-i-test.true c.requires.1
    (c.bit_by.ensures ∙ rw (c.at_or.ensures, c.wide.ensures))

pub returns : goal.returns
returns c =
    copy_all [] (spot_bit c.args.row.now) c.args.spots.now c.args.n c.requires.0 c.loop-i.invariant c.loop-i-test.false
