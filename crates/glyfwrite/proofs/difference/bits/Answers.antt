-- `glyfwrite::difference::bits` meets its contract. Assumes nothing.
use Rattle.glyfwrite.proofs.Coding.{is_still, is_small, is_large}
use native.Mathlib.Omega.{arith}
use mathlib.Core.Path.{sym}
use native.Mathlib.Nat.{add-zero}
use Rattle.glyfwrite.specs.Differences.{bits_in}
use Rattle.glyfwrite.proofs.difference.bits.Goals as goal

pub returns-then-d-eq0 : goal.returns-then-d-eq0
unfolding bits_in
returns-then-d-eq0 c = record { value = rw (is_still c.args.d c.if-d-eq0.true); upper_bound = omega arith }

pub returns-then-d-gt255 : goal.returns-then-d-gt255
unfolding bits_in
returns-then-d-gt255 c = record { value = rw (is_large c.args.d c.if-d-eq0.false c.if-d-gt255.true); upper_bound = omega arith }

pub returns-then-d : goal.returns-then-d
unfolding bits_in
returns-then-d c = record { value = rw (is_small c.args.d c.if-d-eq0.false c.if-d-gt255.false, c.if-d.true); upper_bound = omega arith }

pub returns : goal.returns
unfolding bits_in
returns c = record { value = rw (is_small c.args.d c.if-d-eq0.false c.if-d-gt255.false, c.if-d.false) (sym (add-zero _)); upper_bound = omega arith }
