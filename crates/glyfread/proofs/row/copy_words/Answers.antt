use native.Mathlib.Omega.{arith}
use mathlib.Core.Path.{sym, ◌∙◌}
use Rattle.glyfread.proofs.Words.{length_words, word_is, laid_all}
use Rattle.rows.proofs.Filled.{start, more}
use Rattle.glyfread.proofs.row.copy_words.Goals as goal

pub loop-i-init : goal.loop-i-init
loop-i-init c = (start _ _, omega arith)

pub loop-i-preserved : goal.loop-i-preserved
loop-i-preserved c = let size = length_words c.args.bytes.now c.args.from c.args.n in
    (more 0 _ c.loop-i.invariant.0 (omega (arith, c.loop-i.invariant.0.same)) (omega (arith, size)) (c.word_at.ensures ∙ sym (word_is c.args.bytes.now c.args.from c.args.n c.loop-i.i c.loop-i-test.true)), omega arith)

pub returns : goal.returns
returns c = laid_all c.loop-i.invariant.0 (omega (arith, length_words c.args.bytes.now c.args.from c.args.n))
