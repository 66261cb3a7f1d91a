-- `editions::entry::crunch_editions` meets its contract: the law of proofs/Whole.antt for each edition. Assumes nothing.
use mathlib.Core.Path.{◌∙◌}
use Rattle.rows.specs.Rows.{work, sample_zero, break_zero, answer_zero, link_zero}
use Rattle.crunch.proofs.Whole.{length_kept}
use Rattle.editions.specs.Editions.{settings_a, settings_b}
use Rattle.editions.proofs.Whole.{within, lent_so, fits, promised, zero_so, by_parts}
use Rattle.editions.proofs.entry.crunch_editions.Goals as goal

pub shortest-room_a-requires : goal.shortest-room_a-requires
shortest-room_a-requires c = tt

pub shortest-room_b-requires : goal.shortest-room_b-requires
shortest-room_b-requires c = tt

pub slice_bounds-both_into-end : goal.slice_bounds-both_into-end
slice_bounds-both_into-end c =
    within c.args.ox_a.now c.args.oy_a.now c.args.of_a.now c.args.points_a.now c.shortest-room_a.ensures

pub slice_bounds-both_into-end-2 : goal.slice_bounds-both_into-end-2
slice_bounds-both_into-end-2 c =
    lent_so c.args.ox_a.now c.args.oy_a.now c.args.of_a.now c.args.points_a.now c.shortest-room_a.ensures

pub slice_bounds-both_into-end-3 : goal.slice_bounds-both_into-end-3
slice_bounds-both_into-end-3 c =
    within c.args.ox_b.now c.args.oy_b.now c.args.of_b.now c.args.points_b.now c.shortest-room_b.ensures

pub slice_bounds-both_into-end-4 : goal.slice_bounds-both_into-end-4
slice_bounds-both_into-end-4 c =
    lent_so c.args.ox_b.now c.args.oy_b.now c.args.of_b.now c.args.points_b.now c.shortest-room_b.ensures

pub both_into-r-requires : goal.both_into-r-requires
both_into-r-requires c = tt

pub hand_over-requires : goal.hand_over-requires
hand_over-requires c =
    fits c.args.ox_a.now c.args.oy_a.now c.args.of_a.now c.args.points_a.now c.shortest-room_a.ensures (work c.args.samples.now c.args.breaks.now c.args.answers_a.now c.args.links_a.now) (settings_a c.args.order) c.args.xs.now c.args.ys.now c.args.flags.now c.both_into-r.ensures.a c.both_into-r.auto.points_a

pub hand_over-requires-2 : goal.hand_over-requires-2
hand_over-requires-2 c =
    fits c.args.ox_b.now c.args.oy_b.now c.args.of_b.now c.args.points_b.now c.shortest-room_b.ensures (work c.args.samples.now c.args.breaks.now c.args.answers_b.now c.args.links_b.now) (settings_b c.args.order) c.args.xs.now c.args.ys.now c.args.flags.now c.both_into-r.ensures.b c.both_into-r.auto.points_b

pub shape_of-samples : goal.shape_of-samples
shape_of-samples c = c.hand_over-2.auto.samples ∙ c.hand_over.auto.samples ∙ c.both_into-r.auto.samples

pub shape_of-breaks : goal.shape_of-breaks
shape_of-breaks c = c.hand_over-2.auto.breaks ∙ c.hand_over.auto.breaks ∙ c.both_into-r.auto.breaks

pub shape_of-answers_a : goal.shape_of-answers_a
shape_of-answers_a c = c.hand_over.auto.answers ∙ c.both_into-r.auto.answers_a

pub shape_of-links_a : goal.shape_of-links_a
shape_of-links_a c = c.hand_over.auto.links ∙ c.both_into-r.auto.links_a

pub shape_of-points_a : goal.shape_of-points_a
shape_of-points_a c =
    c.hand_over.auto.points ∙ length_kept c.args.points_a.now c.both_into-r.new.points_a c.shortest-room_a.result c.both_into-r.auto.points_a

pub shape_of-ox_a : goal.shape_of-ox_a
shape_of-ox_a c = c.hand_over.auto.ox

pub shape_of-oy_a : goal.shape_of-oy_a
shape_of-oy_a c = c.hand_over.auto.oy

pub shape_of-of_a : goal.shape_of-of_a
shape_of-of_a c = c.hand_over.auto.of

pub shape_of-answers_b : goal.shape_of-answers_b
shape_of-answers_b c = c.hand_over-2.auto.answers ∙ c.both_into-r.auto.answers_b

pub shape_of-links_b : goal.shape_of-links_b
shape_of-links_b c = c.hand_over-2.auto.links ∙ c.both_into-r.auto.links_b

pub shape_of-points_b : goal.shape_of-points_b
shape_of-points_b c =
    c.hand_over-2.auto.points ∙ length_kept c.args.points_b.now c.both_into-r.new.points_b c.shortest-room_b.result c.both_into-r.auto.points_b

pub shape_of-ox_b : goal.shape_of-ox_b
shape_of-ox_b c = c.hand_over-2.auto.ox

pub shape_of-oy_b : goal.shape_of-oy_b
shape_of-oy_b c = c.hand_over-2.auto.oy

pub shape_of-of_b : goal.shape_of-of_b
shape_of-of_b c = c.hand_over-2.auto.of

pub returns : goal.returns
returns c =
    let samples = c.hand_over.auto.samples ∙ c.both_into-r.auto.samples in
    let breaks = c.hand_over.auto.breaks ∙ c.both_into-r.auto.breaks in
    record {
      to_a = promised c.args.ox_a.now c.args.oy_a.now c.args.of_a.now c.args.points_a.now c.shortest-room_a.ensures (work c.args.samples.now c.args.breaks.now c.args.answers_a.now c.args.links_a.now) (settings_a c.args.order) c.args.xs.now c.args.ys.now c.args.flags.now c.both_into-r.ensures.a c.both_into-r.auto.points_a _ c.hand_over.ensures.outs (by_parts c.args.samples.now c.args.breaks.now c.args.answers_a.now c.args.links_a.now c.hand_over-2.ensures.work c.hand_over.ensures.work (zero_so sample_zero samples) (zero_so break_zero breaks) (zero_so answer_zero c.both_into-r.auto.answers_a) (zero_so link_zero c.both_into-r.auto.links_a)) c.hand_over.ensures.points;
      to_b = promised c.args.ox_b.now c.args.oy_b.now c.args.of_b.now c.args.points_b.now c.shortest-room_b.ensures (work c.args.samples.now c.args.breaks.now c.args.answers_b.now c.args.links_b.now) (settings_b c.args.order) c.args.xs.now c.args.ys.now c.args.flags.now c.both_into-r.ensures.b c.both_into-r.auto.points_b _ c.hand_over-2.ensures.outs (by_parts c.args.samples.now c.args.breaks.now c.args.answers_b.now c.args.links_b.now c.hand_over-2.ensures.work c.hand_over-2.ensures.work (zero_so sample_zero samples) (zero_so break_zero breaks) (zero_so answer_zero c.both_into-r.auto.answers_b) (zero_so link_zero c.both_into-r.auto.links_b)) c.hand_over-2.ensures.points;
    }
