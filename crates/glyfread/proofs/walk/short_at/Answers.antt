-- `glyfread::walk::short_at` meets its contract. Assumes nothing.
use native.Mathlib.Omega.{arith}
use Rattle.glyfread.proofs.Walking.{no_short, short_up, short_down}
use Rattle.glyfread.proofs.walk.short_at.Goals as goal

pub returns-then-bytes-at : goal.returns-then-bytes-at
returns-then-bytes-at c = no_short _ _ _ c.if-bytes-at.true

pub returns-then-same : goal.returns-then-same
returns-then-same c = short_up c.args.bytes.now c.args.at _ c.if-bytes-at.false (omega (arith, c.type_inv.bytes c.args.at)) c.if-same.true c.up.ensures

pub returns : goal.returns
returns c = short_down c.args.bytes.now c.args.at _ c.if-bytes-at.false (omega (arith, c.type_inv.bytes c.args.at)) c.if-same.false c.down.ensures
