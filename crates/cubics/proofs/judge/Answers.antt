-- `cubics::judge` meets its contract. Assumes nothing.
use Rattle.cubics.specs.Refusing.{judged_cubics}
use Rattle.cubics.proofs.judge.Goals as goal

pub returns-then-rows_differ : goal.returns-then-rows_differ
unfolding judged_cubics
returns-then-rows_differ c = rw (← c.rows_differ.ensures, c.if-rows_differ.true)

pub returns-then-no_point : goal.returns-then-no_point
unfolding judged_cubics
returns-then-no_point c = rw (← c.rows_differ.ensures, c.if-rows_differ.false, ← c.no_point.ensures, c.if-no_point.true)

pub returns-then-first_off : goal.returns-then-first_off
unfolding judged_cubics
returns-then-first_off c = rw (← c.rows_differ.ensures, c.if-rows_differ.false, ← c.no_point.ensures, c.if-no_point.false, ← c.first_off.ensures, c.if-first_off.true)

pub returns-then-off_pairs : goal.returns-then-off_pairs
unfolding judged_cubics
returns-then-off_pairs c = rw (← c.rows_differ.ensures, c.if-rows_differ.false, ← c.no_point.ensures, c.if-no_point.false, ← c.first_off.ensures, c.if-first_off.false, ← c.off_pairs.ensures, c.if-off_pairs.true)

pub returns : goal.returns
unfolding judged_cubics
returns c = rw (← c.rows_differ.ensures, c.if-rows_differ.false, ← c.no_point.ensures, c.if-no_point.false, ← c.first_off.ensures, c.if-first_off.false, ← c.off_pairs.ensures, c.if-off_pairs.false)
