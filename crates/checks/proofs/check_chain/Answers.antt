-- `checks::check_chain` meets its contract. Assumes nothing.
use mathlib.Core.Path.{refl, ap, ◌∙◌}
use Rattle.checks.specs.Checks.{GivenChain}
use Rattle.rows.specs.Scratch.{cleared_work}
use Rattle.checks.specs.Entry.{report}
use Rattle.checks.proofs.Steps.{whole_is}
use Rattle.checks.proofs.check_chain.Goals as goal

pub returns : goal.returns
returns c =
    let chain : GivenChain = record { starts = c.args.starts.now; ends = c.args.ends.now; xs = c.args.cxs.now; ys = c.args.cys.now; score = c.args.score } in
    let ruled = whole_is c.args.xs.now c.args.ys.now c.args.flags.now c.args.k c.args.settings chain c.args.samples.now c.args.breaks.now c.args.answers.now c.args.links.now c.least-half.ensures c.check_judged-r.ensures in
    record {
      ruling = ruled;
      values = ap report ruled;
      left = cleared_work c.args.samples.now c.args.breaks.now c.args.answers.now c.args.links.now c.clear_work.ensures c.check_judged-r.auto.samples c.check_judged-r.auto.breaks refl refl;
    }
