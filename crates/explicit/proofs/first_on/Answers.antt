use native.Mathlib.Omega.{arith}
use Rattle.explicit.proofs.Turning.{found, passed, none_found}
use Rattle.explicit.proofs.first_on.Goals as goal

pub loop-i-init : goal.loop-i-init
loop-i-init c = (omega arith, omega arith)

pub returns-then-is_on : goal.returns-then-is_on
returns-then-is_on c = found _ _ c.loop-i.invariant.1 c.loop-i-test.true c.is_on.ensures c.if-is_on.true

pub loop-i-preserved : goal.loop-i-preserved
loop-i-preserved c =
    (omega arith, passed _ _ c.loop-i.invariant.1 c.loop-i-test.true c.is_on.ensures c.if-is_on.false)

pub returns : goal.returns
returns c = none_found _ _ c.loop-i.invariant.1 c.loop-i.invariant.0 c.loop-i-test.false
