-- `gliftext::word::grow` meets its contract. Assumes nothing.
use Rattle.gliftext.specs.Pick.{pick}
use Rattle.gliftext.specs.Words.{grown}
use borrow.Author.Tests.{lt-ltb, le-ltb}
use native.Mathlib.Omega.{arith}
use native.Mathlib.Nat.{mul-le-mul_left}
use Rattle.gliftext.proofs.word.grow.Goals as goal

pub overflow_mul-result : goal.overflow_mul-result
overflow_mul-result c = record { fits = omega (arith, mul-le-mul_left c.args.n c.requires) }

pub overflow_add-result : goal.overflow_add-result
overflow_add-result c = record { fits = omega (arith, mul-le-mul_left c.args.n c.requires, c.digit.ensures.upper_bound) }

pub returns-then-n-lt1114112 : goal.returns-then-n-lt1114112
unfolding grown pick
returns-then-n-lt1114112 c = rw (lt-ltb _ _ c.if-n-lt1114112.true, c.digit.ensures.value)

pub returns-else-n-lt1114112 : goal.returns-else-n-lt1114112
unfolding grown pick
returns-else-n-lt1114112 c = rw (le-ltb _ _ c.if-n-lt1114112.false)
