use mathlib.Core.Path.{◌≡◌, refl, ◌∙◌}
use native.Mathlib.Omega.{arith}
use lib.ListN.{length}
use Rattle.cubics.specs.Making.{nothing}
use Rattle.cubics.proofs.Making.{makes_none, makes_more, made_from, points_none, points_next}
use Rattle.cubics.proofs.replace.Goals as goal

pub loop-i-init : goal.loop-i-init
loop-i-init c =
    (rw (points_none c.args.xs.now c.args.ys.now c.args.flags.now) (makes_none c.args.points.now nothing (omega arith)), refl, omega arith)

pub put_place-m-requires : goal.put_place-m-requires
put_place-m-requires c = (c.loop-i-test.true, c.loop-i.invariant.0.wrote.within)

pub loop-i-preserved : goal.loop-i-preserved
loop-i-preserved c = (
  rw (points_next c.args.xs.now c.args.ys.now c.args.flags.now c.loop-i.i) (makes_more _ _ c.loop-i.invariant.1 c.loop-i.invariant.0 c.put_place-m.ensures),
  c.put_place-m.auto.points ∙ c.loop-i.invariant.1,
  omega (arith, c.loop-i-test.true),
)

pub returns : goal.returns
returns c =
    let e : c.loop-i.i ≡ length c.args.flags.now = omega (arith, c.loop-i.invariant.2, c.loop-i-test.false) in
    made_from (rw e at c.loop-i.invariant.0)
