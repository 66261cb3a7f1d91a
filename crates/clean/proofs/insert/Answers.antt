use Prim.Native.Nat.{◌+◌, ◌-◌}
use mathlib.Core.Path.{◌≡◌, ◌∙◌}
use native.Mathlib.Omega.{arith}
use lib.ListN.{length-set}
use Rattle.clean.proofs.Inserting.{begin, more, inside, moved}
use Rattle.clean.proofs.insert.Goals as goal

pub loop-i-init : goal.loop-i-init
loop-i-init c = (c.requires.1, begin _ _ c.args.spots.now c.requires.0)

pub bounds-spots-i : goal.bounds-spots-i
bounds-spots-i c = let back : c.loop-i.i - 1 + 1 ≡ c.loop-i.i = omega (arith, c.loop-i-test.true) in rw back (inside _ _ c.args.spots.now c.loop-i.invariant.1 c.requires.0)

pub bounds-spots-i-in-loop-i : goal.bounds-spots-i-in-loop-i
bounds-spots-i-in-loop-i c =
    rw (length-set c.loop-i.spots (c.loop-i.i - 1 + 1) _)
    (omega (arith, inside _ _ c.args.spots.now c.loop-i.invariant.1 c.requires.0))

pub loop-i-preserved : goal.loop-i-preserved
loop-i-preserved c =
    let back : c.loop-i.i - 1 + 1 ≡ c.loop-i.i = omega (arith, c.loop-i-test.true) in
    (omega (arith, c.loop-i-test.true), rw back (more _ _ c.loop-i.invariant.1 (omega (arith, c.loop-i-test.true)) (rw (length-set c.args.spots.now _ _) c.requires.0)))

pub shape_of-spots : goal.shape_of-spots
shape_of-spots c = c.loop-i.invariant.1.same ∙ length-set c.args.spots.now _ _

pub returns : goal.returns
returns c = moved _ _ c.args.spots.now c.loop-i.invariant.1 c.loop-i.invariant.0 c.loop-i-test.false
