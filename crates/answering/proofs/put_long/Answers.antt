use Rattle.answering.proofs.put_long.Goals as goal

pub returns-in-Some : goal.returns-in-Some
returns-in-Some c = c.in-Some.ensures

pub returns-in-None : goal.returns-in-None
returns-in-None c = rw c.in-None.ensures at c.put_full.ensures
