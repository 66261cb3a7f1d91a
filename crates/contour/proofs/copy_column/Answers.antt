use Rattle.std.proofs.Common.{List, [], ℤ, to_z-of_z}
use borrow.Author.Rules.{sfits_of}
use Rattle.contour.specs.Implied.{number}
use Rattle.contour.proofs.Copying.{copy_more, copy_all}
use Rattle.contour.proofs.copy_column.Goals as goal

pub loop-i-preserved : goal.loop-i-preserved
loop-i-preserved c =
    copy_more [] (λ (p : List ℤ). number p c.args.k) c.args.points.now c.args.n c.requires.0 c.loop-i.invariant c.loop-i-test.true c.requires.1
    (to_z-of_z {w = mir.Syntax.w16} (sfits_of c.out-1.given))

pub returns : goal.returns
returns c =
    copy_all [] (λ (p : List ℤ). number p c.args.k) c.args.points.now c.args.n c.requires.0 c.loop-i.invariant c.loop-i-test.false
