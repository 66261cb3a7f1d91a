use Prim.Native.Nat.{◌<◌}
use native.Mathlib.Omega.{arith}
use mathlib.Core.Path.{sym, ◌∙◌}
use borrow.Author.Tests.{not-true, not-false}
use lib.ListN.{length, get_or}
use Rattle.chain.proofs.Along.{inside, all_valid, one_invalid, passes_on}
use Rattle.chain.proofs.shape.are_valid.Goals as goal

pub read-a-requires : goal.read-a-requires
read-a-requires c =
    let numbers : (get_or c.args.starts.now c.loop-i.i 0 < length c.args.breaks.now) × (get_or c.args.ends.now c.loop-i.i 0 < length c.args.breaks.now) = inside _ _ _ _ _ _ c.requires.breaks_nonzero.0 c.requires.ys_value c.loop-i-test.true in
    rw c.read-p.ensures (numbers).0

pub read-b-requires : goal.read-b-requires
read-b-requires c =
    let numbers : (get_or c.args.starts.now c.loop-i.i 0 < length c.args.breaks.now) × (get_or c.args.ends.now c.loop-i.i 0 < length c.args.breaks.now) = inside _ _ _ _ _ _ c.requires.breaks_nonzero.0 c.requires.ys_value c.loop-i-test.true in
    rw c.read-p.ensures (numbers).1

pub returns-then-not-is_valid : goal.returns-then-not-is_valid
returns-then-not-is_valid c =
    one_invalid _ _ _ _ _ _ _ c.loop-i.invariant.1 c.loop-i-test.true _ c.read-p.ensures _ _ c.read-a.ensures c.read-b.ensures
    (sym c.is_valid.ensures ∙ not-true _ c.if-not-is_valid.true-raw)

pub quad_of-requires : goal.quad_of-requires
quad_of-requires c =
    let numbers : (get_or c.args.starts.now c.loop-i.i 0 < length c.args.breaks.now) × (get_or c.args.ends.now c.loop-i.i 0 < length c.args.breaks.now) = inside _ _ _ _ _ _ c.requires.breaks_nonzero.0 c.requires.ys_value c.loop-i-test.true in
    rw c.read-p.ensures (numbers)

pub loop-i-preserved : goal.loop-i-preserved
loop-i-preserved c = (
  omega arith,
  passes_on _ _ _ _ _ _ _ c.loop-i.invariant.1 c.loop-i-test.true _ c.read-p.ensures _ _ c.read-a.ensures c.read-b.ensures
      _ (sym c.is_valid.ensures ∙ not-false _ c.if-not-is_valid.false-raw) c.quad_of.ensures,
)

pub returns : goal.returns
returns c = all_valid _ _ _ _ _ _ _ c.loop-i.invariant.1 c.loop-i-test.false
