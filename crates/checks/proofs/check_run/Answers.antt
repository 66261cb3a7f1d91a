-- `checks::check_run` meets its contract. Assumes nothing.
use mathlib.Core.Path.{sym}
use lib.Seq.{length-take-le}
use Rattle.survey.specs.Survey.{samples_used, breaks_used}
use Rattle.survey.specs.Laws.{in_row, found_rows}
use Rattle.checks.proofs.Steps.{survey_is}
use Rattle.checks.proofs.check_run.Goals as goal

pub slice_bounds-check_surveyed-end : goal.slice_bounds-check_surveyed-end
slice_bounds-check_surveyed-end c = in_row samples_used (rw c.in-Ok-Some.field-0-is at c.in-Ok-Some.is) c.survey.ensures.samples c.survey.auto.samples

pub slice_bounds-check_surveyed-end-in-Ok-Some : goal.slice_bounds-check_surveyed-end-in-Ok-Some
slice_bounds-check_surveyed-end-in-Ok-Some c =
    sym (length-take-le _ c.survey.new.samples (in_row samples_used (rw c.in-Ok-Some.field-0-is at c.in-Ok-Some.is) c.survey.ensures.samples c.survey.auto.samples))

pub slice_bounds-check_surveyed-end-in-Ok-Some-2 : goal.slice_bounds-check_surveyed-end-in-Ok-Some-2
slice_bounds-check_surveyed-end-in-Ok-Some-2 c = in_row breaks_used (rw c.in-Ok-Some.field-0-is at c.in-Ok-Some.is) c.survey.ensures.breaks c.survey.auto.breaks

pub slice_bounds-check_surveyed-end-in-Ok-Some-3 : goal.slice_bounds-check_surveyed-end-in-Ok-Some-3
slice_bounds-check_surveyed-end-in-Ok-Some-3 c =
    sym (length-take-le _ c.survey.new.breaks (in_row breaks_used (rw c.in-Ok-Some.field-0-is at c.in-Ok-Some.is) c.survey.ensures.breaks c.survey.auto.breaks))

pub check_surveyed-requires : goal.check_surveyed-requires
check_surveyed-requires c =
    let found = found_rows _ _ c.args.xs.now c.args.ys.now c.args.flags.now c.args.first c.args.count c.grid.result c.survey.new.samples c.survey.new.breaks c.survey.ensures.rows (rw c.in-Ok-Some.field-0-is at c.in-Ok-Some.is) in
    (found.some, found.few)

pub returns-in-Err : goal.returns-in-Err
returns-in-Err c =
    let is = survey_is _ _ c.args.xs.now c.args.ys.now c.args.flags.now c.args.first c.args.count c.survey.new.samples c.survey.new.breaks c.grid.ensures c.survey.ensures.rows c.in-Err.is in
    rw (← is) c.refused.ensures

pub returns-in-Ok-None : goal.returns-in-Ok-None
returns-in-Ok-None c =
    let is = survey_is _ _ c.args.xs.now c.args.ys.now c.args.flags.now c.args.first c.args.count c.survey.new.samples c.survey.new.breaks c.grid.ensures c.survey.ensures.rows (rw c.in-Ok-None.field-0-is at c.in-Ok-None.is) in
    rw (← is) c.refused-in-Ok-None.ensures

pub returns-in-Ok-Some : goal.returns-in-Ok-Some
returns-in-Ok-Some c =
    let is = survey_is _ _ c.args.xs.now c.args.ys.now c.args.flags.now c.args.first c.args.count c.survey.new.samples c.survey.new.breaks c.grid.ensures c.survey.ensures.rows (rw c.in-Ok-Some.field-0-is at c.in-Ok-Some.is) in
    rw (← is) c.check_surveyed.ensures
