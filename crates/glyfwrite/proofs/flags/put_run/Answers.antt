-- `glyfwrite::flags::put_run` meets its contract. Assumes nothing.
use native.Mathlib.Omega.{arith}
use Prim.Native.Nat.{◌<◌}
use borrow.Author.Tests.{lt-ltb}
use Rattle.glyfwrite.proofs.Putting.{nothing, then}
use Rattle.glyfwrite.proofs.flags.put_run.Goals as goal

pub returns-then-times-eq0 : goal.returns-then-times-eq0
returns-then-times-eq0 c = record { put = rw c.if-times-eq0.true (nothing _ _); upper_bound = omega arith }

pub returns-then-times-eq1 : goal.returns-then-times-eq1
returns-then-times-eq1 c = record { put = rw c.if-times-eq1.true c.put_byte.ensures; upper_bound = omega (arith, c.put_byte.ensures.next) }

pub returns-then-times-eq2 : goal.returns-then-times-eq2
returns-then-times-eq2 c = record { put = rw c.if-times-eq2.true (then c.put_byte-next.ensures c.put_byte-then-times-eq2.ensures); upper_bound = omega (arith, c.put_byte-next.ensures.next, c.put_byte-then-times-eq2.ensures.next) }

pub returns : goal.returns
returns c = let many : 2 < c.args.times = omega (arith, c.if-times-eq0.false, c.if-times-eq1.false, c.if-times-eq2.false) in
    record { put = rw (lt-ltb 2 c.args.times many) (then c.put_byte-next-2.ensures c.put_byte-2.ensures); upper_bound = omega (arith, c.put_byte-next-2.ensures.next, c.put_byte-2.ensures.next) }
