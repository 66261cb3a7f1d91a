-- `chains::chain_of_run` meets its contract. Assumes nothing.
use mathlib.Core.Path.{◌∙◌}
use Rattle.rows.specs.Rows.{work}
use Rattle.rows.specs.Lent.{inputs}
use Rattle.pieces.specs.Slots.{chain}
use Rattle.edition.specs.Laws.{cleared_work}
use Rattle.chains.specs.Entry.{rows, whole_of, breaks_in}
use Rattle.chains.specs.Determine.{values_are}
use Rattle.chains.proofs.Steps.{answer_is, rows_are}
use Rattle.chains.proofs.chain_of_run.Goals as goal

pub returns : goal.returns
returns c =
    let lent = rows (chain c.args.starts.now c.args.ends.now c.args.cxs.now c.args.cys.now) c.args.spans.now in
    let scratch = work c.args.samples.now c.args.breaks.now c.args.answers.now c.args.links.now in
    let order = inputs c.args.xs.now c.args.ys.now c.args.flags.now in
    let whole = whole_of order c.args.settings c.args.k lent scratch in
    let breaks = breaks_in order c.args.settings c.args.k scratch in
    record {
      answer = answer_is whole breaks lent c.chain_judged-r.ensures;
      values = values_are whole (answer_is whole breaks lent c.chain_judged-r.ensures);
      rows = rows_are whole breaks lent c.chain_judged-r.ensures;
      work = cleared_work c.args.samples.now c.args.breaks.now c.args.answers.now c.args.links.now c.clear_work.ensures c.chain_judged-r.auto.samples c.chain_judged-r.auto.breaks c.chain_judged-r.auto.answers c.chain_judged-r.auto.links;
    }
