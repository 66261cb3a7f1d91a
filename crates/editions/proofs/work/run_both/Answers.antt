-- `editions::work::run_both` meets its contract. Assumes nothing.
use mathlib.Core.Path.{sym, ◌∙◌}
use Rattle.rows.specs.Rows.{work}
use Rattle.runs.specs.declared.Run.{Run}
use Rattle.edition.specs.Scratch.{rooms_of}
use Rattle.editions.specs.Editions.{settings_a, settings_b}
use Rattle.editions.proofs.Steps.{over_stays, copied_moves, worked_moves}
use Rattle.editions.proofs.work.run_both.Goals as goal

pub is_over-requires : goal.is_over-requires
is_over-requires c = tt

pub is_over-requires-then-is_over : goal.is_over-requires-then-is_over
is_over-requires-then-is_over c = tt

pub returns-then-is_over-2 : goal.returns-then-is_over-2
returns-then-is_over-2 c =
    let run : Run = record { first = c.args.first; count = c.args.count } in
    record { a = over_stays (rooms_of (work c.args.samples.now c.args.breaks.now c.args.answers_a.now c.args.links_a.now)) (settings_a c.args.order) c.args.xs.now c.args.ys.now c.args.flags.now run _ (sym c.is_over.ensures ∙ c.if-is_over.true); b = over_stays (rooms_of (work c.args.samples.now c.args.breaks.now c.args.answers_b.now c.args.links_b.now)) (settings_b c.args.order) c.args.xs.now c.args.ys.now c.args.flags.now run _ (sym c.is_over-then-is_over.ensures ∙ c.if-is_over-2.true) }

pub start_of-at-requires : goal.start_of-at-requires
start_of-at-requires c = tt

pub is_copied_from-requires : goal.is_copied_from-requires
is_copied_from-requires c = tt

pub read_from-g-requires : goal.read_from-g-requires
read_from-g-requires c = tt

pub copy_line-a-requires : goal.copy_line-a-requires
copy_line-a-requires c = tt

pub copy_line-b-requires : goal.copy_line-b-requires
copy_line-b-requires c = tt

pub shape_of-points_a-then-is_copied_from : goal.shape_of-points_a-then-is_copied_from
shape_of-points_a-then-is_copied_from c = c.copy_line-a.auto.points

pub shape_of-points_b-then-is_copied_from : goal.shape_of-points_b-then-is_copied_from
shape_of-points_b-then-is_copied_from c = c.copy_line-b.auto.points

pub returns-then-is_copied_from : goal.returns-then-is_copied_from
returns-then-is_copied_from c =
    let run : Run = record { first = c.args.first; count = c.args.count } in record { a = copied_moves (rooms_of (work c.args.samples.now c.args.breaks.now c.args.answers_a.now c.args.links_a.now)) (settings_a c.args.order) c.args.xs.now c.args.ys.now c.args.flags.now run c.start_of-at.ensures c.is_copied_from.ensures c.if-is_copied_from.true c.read_from-g.ensures c.copy_line-a.ensures; b = copied_moves (rooms_of (work c.args.samples.now c.args.breaks.now c.args.answers_b.now c.args.links_b.now)) (settings_b c.args.order) c.args.xs.now c.args.ys.now c.args.flags.now run c.start_of-at.ensures c.is_copied_from.ensures c.if-is_copied_from.true c.read_from-g.ensures c.copy_line-b.ensures }

pub step_both-requires : goal.step_both-requires
step_both-requires c = c.requires

pub shape_of-samples : goal.shape_of-samples
shape_of-samples c = c.step_both.auto.samples

pub shape_of-breaks : goal.shape_of-breaks
shape_of-breaks c = c.step_both.auto.breaks

pub shape_of-answers_a : goal.shape_of-answers_a
shape_of-answers_a c = c.step_both.auto.answers_a

pub shape_of-links_a : goal.shape_of-links_a
shape_of-links_a c = c.step_both.auto.links_a

pub shape_of-points_a : goal.shape_of-points_a
shape_of-points_a c = c.step_both.auto.points_a

pub shape_of-answers_b : goal.shape_of-answers_b
shape_of-answers_b c = c.step_both.auto.answers_b

pub shape_of-links_b : goal.shape_of-links_b
shape_of-links_b c = c.step_both.auto.links_b

pub shape_of-points_b : goal.shape_of-points_b
shape_of-points_b c = c.step_both.auto.points_b

pub returns : goal.returns
returns c =
    let run : Run = record { first = c.args.first; count = c.args.count } in record { a = worked_moves (rooms_of (work c.args.samples.now c.args.breaks.now c.args.answers_a.now c.args.links_a.now)) (settings_a c.args.order) c.args.xs.now c.args.ys.now c.args.flags.now run c.start_of-at.ensures c.is_copied_from.ensures c.if-is_copied_from.false c.step_both.ensures.a; b = worked_moves (rooms_of (work c.args.samples.now c.args.breaks.now c.args.answers_b.now c.args.links_b.now)) (settings_b c.args.order) c.args.xs.now c.args.ys.now c.args.flags.now run c.start_of-at.ensures c.is_copied_from.ensures c.if-is_copied_from.false c.step_both.ensures.b }
