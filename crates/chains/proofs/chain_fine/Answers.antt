-- `chains::chain_fine` meets its contract. Assumes nothing.
use mathlib.Core.Path.{refl}
use Rattle.rows.specs.Rows.{work}
use Rattle.edition.specs.Scratch.{rooms_of}
use Rattle.pieces.specs.Slots.{chain}
use Rattle.chains.specs.Entry.{rows}
use Rattle.runs.proofs.Few.{run_few}
use Rattle.chains.proofs.Steps.{numbered_handed}
use Rattle.chains.proofs.chain_fine.Goals as goal

pub chain_run-requires : goal.chain_run-requires
chain_run-requires c =
    run_few c.args.settings.closed c.args.xs.now c.args.ys.now c.args.flags.now c.args.k c.requires c.numbered_run.ensures c.in-Some.is

pub returns-in-None : goal.returns-in-None
returns-in-None c =
    let lent = rows (chain c.args.starts.now c.args.ends.now c.args.cxs.now c.args.cys.now) c.args.spans.now in
    let rooms = rooms_of (work c.args.samples.now c.args.breaks.now c.args.answers.now c.args.links.now) in
    numbered_handed rooms c.args.settings lent c.args.xs.now c.args.ys.now c.args.flags.now c.args.k c.numbered_run.ensures c.in-None.is refl

pub returns-in-Some : goal.returns-in-Some
returns-in-Some c =
    let lent = rows (chain c.args.starts.now c.args.ends.now c.args.cxs.now c.args.cys.now) c.args.spans.now in
    let rooms = rooms_of (work c.args.samples.now c.args.breaks.now c.args.answers.now c.args.links.now) in
    numbered_handed rooms c.args.settings lent c.args.xs.now c.args.ys.now c.args.flags.now c.args.k c.numbered_run.ensures c.in-Some.is c.chain_run.ensures
