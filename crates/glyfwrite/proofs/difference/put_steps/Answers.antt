use borrow.Author.Rules.{rules}
use Rattle.glyfwrite.proofs.Taking.{copied}
use native.Mathlib.Omega.{arith}
use Rattle.glyfwrite.proofs.Putting.{begin, more, all}
use Rattle.glyfwrite.proofs.Coding.{next_code, no_codes}
use Rattle.glyfwrite.proofs.difference.put_steps.Goals as goal

pub loop-z-init : goal.loop-z-init
loop-z-init c = (begin _ _ _, omega arith, omega arith)

pub loop-z-preserved : goal.loop-z-preserved
loop-z-preserved c = (
  more c.loop-z.invariant.0 (next_code _ _ _ c.loop-z-test.true (copied (search rules)) c.between.ensures) c.put_difference-at.ensures.put,
  omega arith,
  omega (arith, c.put_difference-at.ensures.upper_bound),
)

pub returns : goal.returns
returns c = record { put = all c.loop-z.invariant.0 (no_codes _ _ _ c.loop-z-test.false); upper_bound = omega arith }
