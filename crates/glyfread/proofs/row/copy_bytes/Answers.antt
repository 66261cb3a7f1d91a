use native.Mathlib.Omega.{arith}
use Rattle.glyfread.proofs.Words.{length_part, part_is, laid_all}
use Rattle.rows.proofs.Filled.{start, more}
use Rattle.glyfread.proofs.row.copy_bytes.Goals as goal

pub loop-i-init : goal.loop-i-init
loop-i-init c = (start _ _, omega arith)

pub loop-i-preserved : goal.loop-i-preserved
loop-i-preserved c = let size = length_part c.args.bytes.now c.args.from c.args.n c.requires.0 in
    (more 0 _ c.loop-i.invariant.0 (omega (arith, c.loop-i.invariant.0.same)) (omega (arith, size)) (part_is _ _ _ c.requires.0 _ c.loop-i-test.true), omega arith)

pub returns : goal.returns
returns c = laid_all c.loop-i.invariant.0 (omega (arith, length_part c.args.bytes.now c.args.from c.args.n c.requires.0))
