-- `optimize::mark_search` meets its contract. Assumes nothing.
use Prim.Native.Nat.{◌-◌, ◌≤◌}
use native.Mathlib.Omega.{arith}
use Rattle.optimize.proofs.Attempt.{readable}
use Rattle.optimize.proofs.Phases.{into_search}
use Rattle.optimize.proofs.Marking.{unmarked}
use Rattle.optimize.proofs.mark_search.Goals as goal

pub load-last-requires : goal.load-last-requires
load-last-requires c =
    let upto : c.args.i - 1 ≤ c.args.n = omega (arith, c.requires.1) in
    rw c.slot_of.ensures (readable c.requires.2.room upto (c.requires.2.rep.stands (c.args.i - 1) upto))

pub returns-then-is_line : goal.returns-then-is_line
returns-then-is_line c = c.mark_straight.ensures _ _ c.requires.2.room (into_search _ _ _ c.if-from-i.true c.requires.1)

pub returns-else-is_line : goal.returns-else-is_line
returns-else-is_line c = c.mark_bent.ensures _ _ c.requires.2.room (into_search _ _ _ c.if-from-i.true c.requires.1)

pub returns-else-from-i : goal.returns-else-from-i
returns-else-from-i c = λ st rep. unmarked rep
