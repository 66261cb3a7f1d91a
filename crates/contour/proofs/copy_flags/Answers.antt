use Rattle.std.proofs.Common.{[]}
use Rattle.contour.specs.Output.{flag_of}
use Rattle.contour.proofs.Copying.{copy_more, copy_all}
use Rattle.contour.proofs.copy_flags.Goals as goal

pub loop-i-preserved : goal.loop-i-preserved
loop-i-preserved c =
    copy_more [] flag_of c.args.points.now c.args.n c.requires.0 c.loop-i.invariant c.loop-i-test.true c.requires.1 c.flag.ensures

pub returns : goal.returns
returns c =
    copy_all [] flag_of c.args.points.now c.args.n c.requires.0 c.loop-i.invariant c.loop-i-test.false
