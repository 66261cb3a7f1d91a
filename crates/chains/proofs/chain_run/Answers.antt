-- `chains::chain_run` meets its contract. Assumes nothing.
use mathlib.Core.Path.{refl, sym}
use lib.Seq.{length-take-le}
use Rattle.refusals.proofs.Passing.{handed_up}
use Rattle.rows.specs.Rows.{work}
use Rattle.pieces.specs.Slots.{chain}
use Rattle.survey.specs.Survey.{samples_used, breaks_used}
use Rattle.edition.specs.Laws.{in_row, found_rows}
use Rattle.edition.specs.Scratch.{rooms_of}
use Rattle.chains.specs.Entry.{rows}
use Rattle.chains.proofs.Steps.{survey_handed}
use Rattle.chains.proofs.chain_run.Goals as goal

pub slice_bounds-chain_surveyed-end : goal.slice_bounds-chain_surveyed-end
slice_bounds-chain_surveyed-end c = in_row samples_used (rw c.in-Some.is at c.in_ok-survey.was) c.survey.ensures.samples c.survey.auto.samples

pub slice_bounds-chain_surveyed-end-in-Some : goal.slice_bounds-chain_surveyed-end-in-Some
slice_bounds-chain_surveyed-end-in-Some c = sym (length-take-le _ c.survey.new.samples (in_row samples_used (rw c.in-Some.is at c.in_ok-survey.was) c.survey.ensures.samples c.survey.auto.samples))

pub slice_bounds-chain_surveyed-end-in-Some-2 : goal.slice_bounds-chain_surveyed-end-in-Some-2
slice_bounds-chain_surveyed-end-in-Some-2 c = in_row breaks_used (rw c.in-Some.is at c.in_ok-survey.was) c.survey.ensures.breaks c.survey.auto.breaks

pub slice_bounds-chain_surveyed-end-in-Some-3 : goal.slice_bounds-chain_surveyed-end-in-Some-3
slice_bounds-chain_surveyed-end-in-Some-3 c = sym (length-take-le _ c.survey.new.breaks (in_row breaks_used (rw c.in-Some.is at c.in_ok-survey.was) c.survey.ensures.breaks c.survey.auto.breaks))

pub chain_surveyed-requires : goal.chain_surveyed-requires
chain_surveyed-requires c = (
  found_rows _ _ c.args.xs.now c.args.ys.now c.args.flags.now c.args.first c.args.count _ c.survey.new.samples c.survey.new.breaks c.survey.ensures.rows (rw c.in-Some.is at c.in_ok-survey.was),
  c.requires.0,
  c.requires.1,
)

pub returns-in_err-survey : goal.returns-in_err-survey
returns-in_err-survey c =
    let lent = rows (chain c.args.starts.now c.args.ends.now c.args.cxs.now c.args.cys.now) c.args.spans.now in
    let rooms = rooms_of (work c.args.samples.now c.args.breaks.now c.args.answers.now c.args.links.now) in
    rw (handed_up c.from_residual.result _ c.from_residual.ensures.1)
    (survey_handed rooms c.args.settings lent c.args.xs.now c.args.ys.now c.args.flags.now c.args.first c.args.count c.survey.new.samples c.survey.new.breaks c.grid.ensures c.per_piece-penalty.ensures c.survey.ensures.rows c.in_err-survey.was refl)

pub returns-in-None : goal.returns-in-None
returns-in-None c =
    let lent = rows (chain c.args.starts.now c.args.ends.now c.args.cxs.now c.args.cys.now) c.args.spans.now in
    let rooms = rooms_of (work c.args.samples.now c.args.breaks.now c.args.answers.now c.args.links.now) in
    survey_handed rooms c.args.settings lent c.args.xs.now c.args.ys.now c.args.flags.now c.args.first c.args.count c.survey.new.samples c.survey.new.breaks c.grid.ensures c.per_piece-penalty.ensures c.survey.ensures.rows (rw c.in-None.is at c.in_ok-survey.was) refl

pub returns-in-Some : goal.returns-in-Some
returns-in-Some c =
    let lent = rows (chain c.args.starts.now c.args.ends.now c.args.cxs.now c.args.cys.now) c.args.spans.now in
    let rooms = rooms_of (work c.args.samples.now c.args.breaks.now c.args.answers.now c.args.links.now) in
    survey_handed rooms c.args.settings lent c.args.xs.now c.args.ys.now c.args.flags.now c.args.first c.args.count c.survey.new.samples c.survey.new.breaks c.grid.ensures c.per_piece-penalty.ensures c.survey.ensures.rows (rw c.in-Some.is at c.in_ok-survey.was) c.chain_surveyed.ensures
