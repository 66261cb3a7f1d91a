-- `survey::survey` meets its contract. Assumes nothing.
use native.Mathlib.Omega.{arith}
use mathlib.Core.List.{◌++◌}
use mathlib.Core.Path.{◌∙◌}
use lib.ListN.{drop}
use Rattle.survey.proofs.Rooms.{room_is, surveyed_as, count_sampled, within_all, first_are, sampled_first, of_first}
use Rattle.survey.proofs.survey.Goals as goal

pub slice_bounds-sample_run-end-2 : goal.slice_bounds-sample_run-end-2
slice_bounds-sample_run-end-2 c = room_is 16384 _ _ c.least-room.ensures

pub slice_bounds-search-end : goal.slice_bounds-search-end
slice_bounds-search-end c =
    within_all c.sample_run.new.row (drop c.least-room.result c.args.samples.now) _ _ (count_sampled c.in-Some.is c.sample_run.ensures.places) c.sample_run.auto.row

pub slice_bounds-search-end-in-Some : goal.slice_bounds-search-end-in-Some
slice_bounds-search-end-in-Some c =
    first_are c.sample_run.new.row (drop c.least-room.result c.args.samples.now) _ _ (count_sampled c.in-Some.is c.sample_run.ensures.places) c.sample_run.auto.row

pub returns-in-None : goal.returns-in-None
returns-in-None c =
    record { rows = surveyed_as c.args.xs.now c.args.ys.now c.args.flags.now c.args.first c.args.count _ c.args.g c.args.samples.now _ c.least-room.ensures _ c.sample_run.ensures.row c.in-None.is; samples = omega arith; breaks = omega arith }

pub returns-in-Some : goal.returns-in-Some
returns-in-Some c =
    let is = surveyed_as c.args.xs.now c.args.ys.now c.args.flags.now c.args.first c.args.count _ c.args.g c.args.samples.now _ c.least-room.ensures _ c.sample_run.ensures.row c.in-Some.is in
    let few = count_sampled c.in-Some.is c.sample_run.ensures.places in
    let rest = drop c.least-room.result c.args.samples.now in record { rows = sampled_first c.args.g _ _ c.sample_run.new.row rest _ few c.sample_run.auto.row is c.search.ensures.breaks ∙ of_first (c.sample_run.new.row ++ rest) c.search.new.breaks c.in-Some.thetas.count c.search.result c.search.ensures.samples; samples = omega (arith, c.search.ensures.samples, first_are c.sample_run.new.row rest _ _ few c.sample_run.auto.row, few, room_is 16384 c.args.samples.now _ c.least-room.ensures, c.least-room.ensures); breaks = c.search.ensures.places }
