-- `optimize::stored::standing` meets its contract. Assumes nothing.
use borrow.Author.Rules.{rules}
use Rattle.optimize.proofs.Leaves.{stands, starts, nothing}
use Rattle.optimize.proofs.stored.standing.Goals as goal

pub slot_of-requires : goal.slot_of-requires
slot_of-requires c = search rules

pub load-a-requires : goal.load-a-requires
load-a-requires c = rw c.slot_of.ensures c.requires.1

pub returns-then-a-ne0 : goal.returns-then-a-ne0
returns-then-a-ne0 c =
    stands _ _ _ _ _ _ c.slot_of.ensures c.load-a.ensures c.if-a-ne0.true

pub returns-then-b-eq0 : goal.returns-then-b-eq0
returns-then-b-eq0 c =
    starts _ _ _ _ _ _ c.slot_of.ensures c.load-a.ensures c.if-a-ne0.false c.if-b-eq0.true

pub returns : goal.returns
returns c =
    nothing _ _ _ _ _ _ c.slot_of.ensures c.load-a.ensures c.if-a-ne0.false c.if-b-eq0.false
