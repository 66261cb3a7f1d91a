-- `chains::put_worked` meets its contract. Assumes nothing.
use mathlib.Core.Path.{refl}
use Rattle.refusals.proofs.Passing.{handed_up}
use Rattle.pieces.specs.Slots.{chain}
use Rattle.edition.specs.Laws.{works_refused, works_unchanged}
use Rattle.chains.specs.Entry.{rows, room_in}
use Rattle.chains.proofs.Steps.{readable_held, works_handed}
use Rattle.chains.proofs.put_worked.Goals as goal

pub put_solved-requires : goal.put_solved-requires
put_solved-requires c = readable_held c.requires (rw c.in-Done.is at c.in_ok-tally.was)

pub returns-in_err-tally : goal.returns-in_err-tally
returns-in_err-tally c =
    λ penalty b x works. rw (handed_up c.from_residual.result _ c.from_residual.ensures.1, works_refused works c.in_err-tally.was) refl

pub returns-in-Unchanged : goal.returns-in-Unchanged
returns-in-Unchanged c = λ penalty b x works. rw (works_unchanged works (rw c.in-Unchanged.is at c.in_ok-tally.was)) refl

pub returns-in-Done : goal.returns-in-Done
returns-in-Done c =
    let lent = rows (chain c.args.starts.now c.args.ends.now c.args.cxs.now c.args.cys.now) c.args.spans.now in
    λ penalty b x works. works_handed (room_in lent) c.args.breaks.now lent works (rw c.in-Done.is at c.in_ok-tally.was) c.put_solved.ensures
