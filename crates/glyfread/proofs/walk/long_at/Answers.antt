-- `glyfread::walk::long_at` meets its contract. Assumes nothing.
use native.Mathlib.Omega.{arith}
use Rattle.glyfread.proofs.Walking.{no_change, no_long, half_long, long_is}
use Prim.Native.Nat.{◌+◌}
use Rattle.glyfread.proofs.walk.long_at.Goals as goal

pub returns-then-same : goal.returns-then-same
returns-then-same c = no_change _ _ _ c.if-same.true

pub returns-then-bytes-at : goal.returns-then-bytes-at
returns-then-bytes-at c = no_long _ _ _ c.if-same.false c.if-bytes-at.true

pub returns-then-bytes-at-2 : goal.returns-then-bytes-at-2
returns-then-bytes-at-2 c = half_long _ _ _ c.if-same.false c.if-bytes-at.false c.if-bytes-at-2.true

pub returns : goal.returns
returns c = long_is c.args.bytes.now c.args.at _ c.if-same.false c.if-bytes-at.false c.if-bytes-at-2.false (omega (arith, c.type_inv.bytes c.args.at, c.type_inv.bytes (c.args.at + 1))) c.word_at.ensures c.signed_of.ensures
