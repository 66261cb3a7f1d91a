-- `refusals::judge` meets its contract: each return rewrites with the tests that led there. Assumes nothing.
use Rattle.refusals.specs.Refusals.{judged}
use Rattle.refusals.proofs.Laws.{refuses, passes}
use Rattle.refusals.proofs.judge.Goals as goal

pub returns-then-rows_differ : goal.returns-then-rows_differ
unfolding judged
returns-then-rows_differ c = search refuses

pub returns-then-no_point : goal.returns-then-no_point
unfolding judged
returns-then-no_point c = search (refuses, passes)

pub returns-then-too_many : goal.returns-then-too_many
unfolding judged
returns-then-too_many c = search (refuses, passes)

pub returns-then-first_off : goal.returns-then-first_off
unfolding judged
returns-then-first_off c = search (refuses, passes)

pub returns-then-off_neighbours : goal.returns-then-off_neighbours
unfolding judged
returns-then-off_neighbours c = search (refuses, passes)

pub returns : goal.returns
unfolding judged
returns c = search passes
