-- `runs::list_marked` meets its contract. Assumes nothing.
use Rattle.std.proofs.Common.{arith}
use Rattle.outline.specs.Laws.{count_few}
use Rattle.runs.specs.Runs.{stops_of}
use Rattle.runs.proofs.Listing.{goes_round, none_round}
use Rattle.runs.proofs.list_marked.Goals as goal
use Rattle.runs.proofs.list_marked.Goals.{else-closed-via-then-closed+else-n-gt0, else-closed-via-else-closed}

pub overflow_add-list : goal.overflow_add-list
overflow_add-list c =
    omega (arith, c.list_corners-n.ensures.low (omega arith), count_few c.args.flags.now, c.count.ensures)

pub returns-then-n-gt0 : goal.returns-then-n-gt0
unfolding stops_of
returns-then-n-gt0 c =
    rw (c.if-closed.true, ← c.count.ensures) (goes_round _ c.list_corners-n.ensures.listed (omega arith) (omega (arith, c.requires.2, c.list_corners-n.auto.list, c.list_corners-n.ensures.few)))

pub returns : goal.returns
unfolding stops_of
returns c =
    elim c.else-closed.branch [
      | else-closed-via-then-closed+else-n-gt0 w ↦ rw w.if-closed.true (none_round _ c.list_corners-n.ensures.listed (omega arith))
      | else-closed-via-else-closed w ↦ rw w.if-closed.false c.list_corners-n.ensures.listed
    ]
