-- `editions::entry::work_both` meets its contract. Assumes nothing.
use native.Mathlib.Omega.{arith}
use mathlib.Core.Path.{sym, ◌∙◌}
use borrow.Author.Rules.{rules}
use lib.ListN.{take}
use lib.Seq.{length-take-le}
use Rattle.rows.specs.Rows.{work}
use Rattle.edition.specs.Scratch.{rooms_of}
use Rattle.assembly.proofs.Going.{listed_few}
use Rattle.editions.specs.Editions.{settings_a, settings_b}
use Rattle.editions.proofs.Alone.{begun_by, stood, comes}
use Rattle.editions.proofs.entry.work_both.Goals as goal

pub slice_bounds-list_stops-end : goal.slice_bounds-list_stops-end
slice_bounds-list_stops-end c = search rules

pub list_stops-n-requires : goal.list_stops-n-requires
list_stops-n-requires c = search rules

pub slice_bounds-list-end : goal.slice_bounds-list-end
slice_bounds-list-end c = c.list_stops-n.ensures.within

pub slice_bounds-begin-end : goal.slice_bounds-begin-end
slice_bounds-begin-end c = sym (length-take-le _ _ c.list_stops-n.ensures.within)

pub a-requires : goal.a-requires
a-requires c = tt

pub begin-begun_a-requires : goal.begin-begun_a-requires
begin-begun_a-requires c = tt

pub slice_bounds-list-end-2 : goal.slice_bounds-list-end-2
slice_bounds-list-end-2 c = c.list_stops-n.ensures.within

pub slice_bounds-begin-end-2 : goal.slice_bounds-begin-end-2
slice_bounds-begin-end-2 c = sym (length-take-le _ _ c.list_stops-n.ensures.within)

pub b-requires : goal.b-requires
b-requires c = tt

pub begin-begun_b-requires : goal.begin-begun_b-requires
begin-begun_b-requires c = tt

pub slice_bounds-list-end-3 : goal.slice_bounds-list-end-3
slice_bounds-list-end-3 c = c.list_stops-n.ensures.within

pub slice_bounds-crunch_runs-end : goal.slice_bounds-crunch_runs-end
slice_bounds-crunch_runs-end c = sym (length-take-le _ _ c.list_stops-n.ensures.within)

pub crunch_runs-c-requires : goal.crunch_runs-c-requires
crunch_runs-c-requires c =
    (listed_few c.list_stops-n.ensures (omega (arith, c.list_stops-n.auto.list)), c.begin-begun_a.ensures.none, c.begin-begun_b.ensures.none)

pub slice_bounds-list-end-4 : goal.slice_bounds-list-end-4
slice_bounds-list-end-4 c = c.list_stops-n.ensures.within

pub slice_bounds-end-end : goal.slice_bounds-end-end
slice_bounds-end-end c = sym (length-take-le _ _ c.list_stops-n.ensures.within)

pub end-a-requires : goal.end-a-requires
end-a-requires c =
    let list = take c.list_stops-n.result c.list_stops-n.new.list in
    stood (rooms_of (work c.args.samples.now c.args.breaks.now c.args.answers_a.now c.args.links_a.now)) (settings_a c.args.order) c.args.xs.now c.args.ys.now c.args.flags.now list (begun_by c.args.xs.now c.args.ys.now c.args.flags.now list c.a.ensures c.begin-begun_a.ensures) c.begin-begun_a.auto.points c.crunch_runs-c.ensures.a c.crunch_runs-c.auto.points_a

pub slice_bounds-list-end-5 : goal.slice_bounds-list-end-5
slice_bounds-list-end-5 c = c.list_stops-n.ensures.within

pub slice_bounds-end-end-2 : goal.slice_bounds-end-end-2
slice_bounds-end-end-2 c = sym (length-take-le _ _ c.list_stops-n.ensures.within)

pub end-b-requires : goal.end-b-requires
end-b-requires c =
    let list = take c.list_stops-n.result c.list_stops-n.new.list in
    stood (rooms_of (work c.args.samples.now c.args.breaks.now c.args.answers_b.now c.args.links_b.now)) (settings_b c.args.order) c.args.xs.now c.args.ys.now c.args.flags.now list (begun_by c.args.xs.now c.args.ys.now c.args.flags.now list c.b.ensures c.begin-begun_b.ensures) c.begin-begun_b.auto.points c.crunch_runs-c.ensures.b c.crunch_runs-c.auto.points_b

pub shape_of-samples : goal.shape_of-samples
shape_of-samples c = c.crunch_runs-c.auto.samples

pub shape_of-breaks : goal.shape_of-breaks
shape_of-breaks c = c.crunch_runs-c.auto.breaks

pub shape_of-answers_a : goal.shape_of-answers_a
shape_of-answers_a c = c.crunch_runs-c.auto.answers_a

pub shape_of-links_a : goal.shape_of-links_a
shape_of-links_a c = c.crunch_runs-c.auto.links_a

pub shape_of-points_a : goal.shape_of-points_a
shape_of-points_a c = c.end-a.auto.points ∙ c.crunch_runs-c.auto.points_a ∙ c.begin-begun_a.auto.points

pub shape_of-answers_b : goal.shape_of-answers_b
shape_of-answers_b c = c.crunch_runs-c.auto.answers_b

pub shape_of-links_b : goal.shape_of-links_b
shape_of-links_b c = c.crunch_runs-c.auto.links_b

pub shape_of-points_b : goal.shape_of-points_b
shape_of-points_b c = c.end-b.auto.points ∙ c.crunch_runs-c.auto.points_b ∙ c.begin-begun_b.auto.points

pub returns : goal.returns
returns c =
    let list = take c.list_stops-n.result c.list_stops-n.new.list in record { a = comes (rooms_of (work c.args.samples.now c.args.breaks.now c.args.answers_a.now c.args.links_a.now)) (settings_a c.args.order) c.args.xs.now c.args.ys.now c.args.flags.now list c.list_stops-n.ensures.are (begun_by c.args.xs.now c.args.ys.now c.args.flags.now list c.a.ensures c.begin-begun_a.ensures) c.begin-begun_a.auto.points c.crunch_runs-c.ensures.a c.crunch_runs-c.auto.points_a c.end-a.ensures; b = comes (rooms_of (work c.args.samples.now c.args.breaks.now c.args.answers_b.now c.args.links_b.now)) (settings_b c.args.order) c.args.xs.now c.args.ys.now c.args.flags.now list c.list_stops-n.ensures.are (begun_by c.args.xs.now c.args.ys.now c.args.flags.now list c.b.ensures c.begin-begun_b.ensures) c.begin-begun_b.auto.points c.crunch_runs-c.ensures.b c.crunch_runs-c.auto.points_b c.end-b.ensures }
