use Prim.Native.Nat.{suc}
use mathlib.Core.Path.{refl}
use native.Mathlib.Numerals.{add-one}
use native.Mathlib.Omega.{arith}
use Rattle.quickmeasure.specs.Counting.{fallen_below}
use Rattle.quickmeasure.proofs.Asked.{below_most}
use Rattle.quickmeasure.proofs.count.Goals as goal

pub loop-k-init : goal.loop-k-init
unfolding fallen_below
loop-k-init c = refl

pub overflow_add-n : goal.overflow_add-n
unfolding fallen_below
overflow_add-n c =
    let most = below_most c.args.row.now c.args.m c.args.stages.now (suc c.loop-k.k) in
    omega (arith, most, c.loop-k.invariant, c.fallen_at-n.ensures)

pub loop-k-preserved : goal.loop-k-preserved
unfolding fallen_below
loop-k-preserved c = rw (add-one c.loop-k.k, ← c.loop-k.invariant, ← c.fallen_at-n.ensures) refl
