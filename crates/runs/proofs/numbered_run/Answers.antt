-- `runs::numbered_run` meets its contract. Assumes nothing.
use mathlib.Core.Path.{sym}
use lib.Seq.{length-take-le}
use Rattle.runs.specs.Runs.{runs_of, numbered_run}
use borrow.Author.Rules.{rules}
use Rattle.runs.proofs.numbered_run.Goals as goal

pub slice_bounds-list_stops-end : goal.slice_bounds-list_stops-end
slice_bounds-list_stops-end c = search rules

pub list_stops-n-requires : goal.list_stops-n-requires
list_stops-n-requires c = search rules

pub slice_bounds-list-end : goal.slice_bounds-list-end
slice_bounds-list-end c = search rules

pub slice_bounds-run_at-end : goal.slice_bounds-run_at-end
slice_bounds-run_at-end c = sym (length-take-le _ _ c.list_stops-n.ensures.within)

pub run_at-requires : goal.run_at-requires
run_at-requires c = search rules

pub unless_copied-requires : goal.unless_copied-requires
unless_copied-requires c = search rules

pub returns : goal.returns
unfolding numbered_run runs_of
returns c = rw (← c.list_stops-n.ensures.are, ← c.run_at.ensures) c.unless_copied.ensures
