use Prim.Native.Nat.{◌+◌, ◌-◌}
use mathlib.Core.Path.{◌≡◌, ◌∙◌}
use native.Mathlib.Omega.{arith}
use borrow.Author.Rules.{rules}
use Rattle.refusals.proofs.Laws.{pairs_end, pairs_more}
use Rattle.refusals.proofs.off_neighbours.Goals as goal

pub returns-then-both_off : goal.returns-then-both_off
returns-then-both_off c =
    let inv = c.loop-i.invariant in
    let more = pairs_more c.args.flags.now c.loop-i.i inv.0 c.loop-i-test.true in
    rw (← inv.1, more, ← c.both_off.ensures, c.if-both_off.true)

pub loop-i-preserved : goal.loop-i-preserved
loop-i-preserved c =
    let inv = c.loop-i.invariant in
    let more = pairs_more c.args.flags.now c.loop-i.i inv.0 c.loop-i-test.true in
    let back : c.loop-i.i + 1 - 1 ≡ c.loop-i.i = omega arith in
    (omega arith, rw (back, ← inv.1, more, ← c.both_off.ensures, c.if-both_off.false))

pub returns : goal.returns
returns c = pairs_end _ _ c.loop-i-test.false ∙ c.loop-i.invariant.1
