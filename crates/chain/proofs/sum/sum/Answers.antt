use Prim.Native.Nat.{◌-◌, ◌<◌}
use native.Mathlib.Omega.{arith}
use lib.ListN.{length, get_or}
use Rattle.chain.proofs.Along.{inside, joined_few, summed, one_refused, sums_on, none_counted, all_counted, counted_few, falls_on}
use Rattle.chain.proofs.sum.sum.Goals as goal

pub quad_of-q-requires : goal.quad_of-q-requires
quad_of-q-requires c =
    let numbers : (get_or c.args.starts.now c.loop-i.i 0 < length c.args.breaks.now) × (get_or c.args.ends.now c.loop-i.i 0 < length c.args.breaks.now) = inside _ _ _ _ _ _ c.requires.breaks_nonzero.0 c.requires.ys_value c.loop-i-test.true in
    rw c.read-p.ensures (numbers)

pub read-a-requires : goal.read-a-requires
read-a-requires c =
    let numbers : (get_or c.args.starts.now c.loop-i.i 0 < length c.args.breaks.now) × (get_or c.args.ends.now c.loop-i.i 0 < length c.args.breaks.now) = inside _ _ _ _ _ _ c.requires.breaks_nonzero.0 c.requires.ys_value c.loop-i-test.true in
    rw c.read-p.ensures (numbers).0

pub read-b-requires : goal.read-b-requires
read-b-requires c =
    let numbers : (get_or c.args.starts.now c.loop-i.i 0 < length c.args.breaks.now) × (get_or c.args.ends.now c.loop-i.i 0 < length c.args.breaks.now) = inside _ _ _ _ _ _ c.requires.breaks_nonzero.0 c.requires.ys_value c.loop-i-test.true in
    rw c.read-p.ensures (numbers).1

pub returns-in_default : goal.returns-in_default
returns-in_default c =
    let none = rw c.in_default.is at c.measure_quad.ensures in
    let is =
    one_refused _ _ _ _ _ _ _ _ _ _ c.loop-i.invariant.1 c.loop-i-test.true _ c.read-p.ensures _ c.quad_of-q.ensures
    _ _ c.read-a.ensures c.read-b.ensures none in
    (is, none_counted _ _ _ _ _ _ _ is)

pub overflow_add-fallen : goal.overflow_add-fallen
overflow_add-fallen c =
    let told = rw c.in-Some.is at c.measure_quad.ensures in
    let few =
    counted_few _ _ _ _ _ _ c.loop-i.invariant.2 c.loop-i-test.true _ c.read-p.ensures _ c.quad_of-q.ensures
    _ _ c.read-a.ensures c.read-b.ensures told.1 in
    let pieces = joined_few c.args.starts.now c.args.ends.now c.args.xs.now c.args.ys.now (length c.args.breaks.now - 1) c.requires.ys_value in
    omega (arith, few, c.loop-i.invariant.2.few, c.loop-i-test.true, pieces, c.requires.breaks_nonzero.2)

pub loop-i-preserved : goal.loop-i-preserved
loop-i-preserved c =
    let told = rw c.in-Some.is at c.measure_quad.ensures in (
      omega arith,
      sums_on _ _ _ _ _ _ _ _ _ _ c.loop-i.invariant.1 c.loop-i-test.true _ c.read-p.ensures _ c.quad_of-q.ensures
          _ _ c.read-a.ensures c.read-b.ensures _ _ told.0 c.joint.ensures,
      falls_on _ _ _ _ _ _ c.loop-i.invariant.2 c.loop-i-test.true _ c.read-p.ensures _ c.quad_of-q.ensures
          _ _ c.read-a.ensures c.read-b.ensures told.1,
    )

pub returns : goal.returns
returns c =
    let is = summed _ _ _ _ _ _ _ _ _ _ c.loop-i.invariant.1 c.loop-i-test.false in
    (is, all_counted _ _ _ _ _ _ c.loop-i.invariant.2 c.loop-i-test.false _ is)
