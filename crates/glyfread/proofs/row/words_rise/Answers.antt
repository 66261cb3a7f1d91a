use native.Mathlib.Omega.{arith}
use mathlib.Core.Path.{refl, sym, ◌∙◌}
use Rattle.glyfread.proofs.Words.{words_end, words_stop, words_go}
use Rattle.glyfread.proofs.row.words_rise.Goals as goal

pub loop-i-init : goal.loop-i-init
loop-i-init c = (omega arith, refl)

pub returns-then-word_at : goal.returns-then-word_at
returns-then-word_at c = sym (c.loop-i.invariant.1 ∙ words_stop _ _ _ _ c.loop-i.invariant.0 c.loop-i-test.true c.word_at.ensures c.word_at-in-loop-i.ensures c.if-word_at.true)

pub loop-i-preserved : goal.loop-i-preserved
loop-i-preserved c = (omega arith, c.loop-i.invariant.1 ∙ words_go _ _ _ _ c.loop-i.invariant.0 c.loop-i-test.true c.word_at.ensures c.word_at-in-loop-i.ensures c.if-word_at.false)

pub returns : goal.returns
returns c = words_end _ _ _ _ c.loop-i-test.false ∙ sym c.loop-i.invariant.1
