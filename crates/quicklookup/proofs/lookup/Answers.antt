-- `quicklookup::lookup` meets its contract, by the three cases of proofs/Laws.antt. Assumes nothing.
use mathlib.Core.Path.{sym}
use native.Mathlib.Omega.{arith}
use Rattle.quicklookup.proofs.Laws.{past, last, inside}
use Rattle.quicklookup.proofs.lookup.Goals as goal

pub returns-then-row-b : goal.returns-then-row-b
returns-then-row-b c = sym (past _ _ _ c.to_index-b.ensures c.if-row-b.true)

pub returns-then-row-b-le1 : goal.returns-then-row-b-le1
returns-then-row-b-le1 c = sym (last _ _ _ c.to_index-b.ensures c.if-row-b.false (omega arith))

pub returns : goal.returns
returns c =
    rw (c.between.ensures, c.part.ensures) (sym (inside _ _ _ c.to_index-b.ensures (omega arith)))
