-- `chains::chain_judged` meets its contract. Assumes nothing.
use mathlib.Core.Path.{refl}
use Rattle.refusals.proofs.Passing.{handed_up}
use Rattle.rows.specs.Rows.{work}
use Rattle.edition.specs.Scratch.{rooms_of}
use Rattle.pieces.specs.Slots.{chain}
use Rattle.chains.specs.Entry.{rows}
use Rattle.chains.proofs.Steps.{few_points, judged_handed}
use Rattle.chains.proofs.chain_judged.Goals as goal

pub chain_fine-requires : goal.chain_fine-requires
chain_fine-requires c =
    few_points c.args.settings c.args.xs.now c.args.ys.now c.args.flags.now c.judge.ensures c.in_ok-judge.was

pub returns-in_err-judge : goal.returns-in_err-judge
returns-in_err-judge c =
    let lent = rows (chain c.args.starts.now c.args.ends.now c.args.cxs.now c.args.cys.now) c.args.spans.now in
    let rooms = rooms_of (work c.args.samples.now c.args.breaks.now c.args.answers.now c.args.links.now) in
    rw (handed_up c.from_residual.result _ c.from_residual.ensures.1)
    (judged_handed rooms c.args.settings lent c.args.xs.now c.args.ys.now c.args.flags.now c.args.k c.judge.ensures c.in_err-judge.was refl)

pub returns : goal.returns
returns c =
    let lent = rows (chain c.args.starts.now c.args.ends.now c.args.cxs.now c.args.cys.now) c.args.spans.now in
    let rooms = rooms_of (work c.args.samples.now c.args.breaks.now c.args.answers.now c.args.links.now) in
    judged_handed rooms c.args.settings lent c.args.xs.now c.args.ys.now c.args.flags.now c.args.k c.judge.ensures c.in_ok-judge.was c.chain_fine.ensures
