use Prim.Native.Nat.{ℕ, ◌%◌}
use mathlib.Core.Path.{ap}
use Rattle.rows.proofs.Filled.{start}
use Rattle.contour.proofs.Copying.{copy_more, copy_all}
use Rattle.clean.specs.Entry.{bit_in}
use Rattle.clean.proofs.copy_flags.Goals as goal

pub loop-i-init : goal.loop-i-init
loop-i-init c = start _ _

pub loop-i-preserved : goal.loop-i-preserved
loop-i-preserved c =
    copy_more 0 (bit_in c.args.row.now) c.args.numbers.now c.args.n c.requires.0 c.loop-i.invariant c.loop-i-test.true c.requires.1
    (ap (λ (f : ℕ). f % 2) c.at_or.ensures)

pub returns : goal.returns
returns c =
    copy_all 0 (bit_in c.args.row.now) c.args.numbers.now c.args.n c.requires.0 c.loop-i.invariant c.loop-i-test.false
