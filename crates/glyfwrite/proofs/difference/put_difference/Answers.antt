-- `glyfwrite::difference::put_difference` meets its contract. Assumes nothing.
use native.Mathlib.Omega.{arith}
use Rattle.glyfwrite.specs.Differences.{code_in}
use Rattle.glyfwrite.proofs.Coding.{is_still, is_small, is_large}
use Rattle.glyfwrite.proofs.Putting.{nothing}
use Rattle.glyfwrite.proofs.difference.put_difference.Goals as goal

pub returns-then-d-eq0 : goal.returns-then-d-eq0
unfolding code_in
returns-then-d-eq0 c = record { put = rw (is_still c.args.d c.if-d-eq0.true) (nothing _ _); upper_bound = omega arith }

pub returns-then-d-le255 : goal.returns-then-d-le255
unfolding code_in
returns-then-d-le255 c = record { put = rw (is_small c.args.d c.if-d-eq0.false c.if-d-le255.true, ← c.short.ensures) c.put_byte.ensures; upper_bound = omega (arith, c.put_byte.ensures.next) }

pub returns : goal.returns
unfolding code_in
returns c = record { put = rw (is_large c.args.d c.if-d-eq0.false c.if-d-le255.false, ← c.long.ensures) c.put_word.ensures; upper_bound = omega (arith, c.put_word.ensures.next) }
