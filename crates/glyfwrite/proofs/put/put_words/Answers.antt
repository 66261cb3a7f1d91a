use native.Mathlib.Omega.{arith}
use Rattle.glyfwrite.proofs.Putting.{begin, more, all, next_word, no_word}
use Rattle.glyfwrite.proofs.put.put_words.Goals as goal

pub loop-v-init : goal.loop-v-init
loop-v-init c = (begin _ _ _, omega arith, omega arith)

pub loop-v-preserved : goal.loop-v-preserved
loop-v-preserved c = (more c.loop-v.invariant.0 (next_word _ _ c.loop-v-test.true) c.put_word-at.ensures, omega arith, omega (arith, c.put_word-at.ensures.next))

pub returns : goal.returns
returns c = record { put = all c.loop-v.invariant.0 (no_word _ _ c.loop-v-test.false); upper_bound = omega arith }
