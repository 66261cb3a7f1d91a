use mathlib.Core.Path.{sym, ◌∙◌}
use native.Mathlib.Omega.{arith}
use Rattle.quickarclen.specs.Stages.{time_at}
use Rattle.quickmeasure.proofs.Stored.{follows}
use Rattle.quickmeasure.proofs.Asked.{counted}
use Rattle.quickmeasure.proofs.Early.{start, more, lost, all_done, over, by_nodes}
use Rattle.quickmeasure.proofs.judge.Goals as goal

pub loop-i-init : goal.loop-i-init
unfolding time_at
loop-i-init c = (start _ _ _, c.node_at-n.ensures)

pub returns-in_err-r : goal.returns-in_err-r
returns-in_err-r c =
    rw c.from_residual.ensures (lost _ _ _ c.requires.0 _ _ c.loop-i-test.true c.loop-i.invariant.0
    (sym (by_nodes _ _ _ c.requires.0 _ _ _ _ _ c.loop-i-test.true c.loop-i.invariant.1 c.node_at-middle.ensures c.node_at-end.ensures)
    ∙ sym c.step.ensures ∙ c.in_err-r.was))

pub returns-then-beyond : goal.returns-then-beyond
returns-then-beyond c =
    over _ _ _ c.requires.0 _ _ _ _ (omega arith)
    (more _ _ _ c.requires.0 _ _ _ c.loop-i-test.true c.loop-i.invariant.0
    (sym (by_nodes _ _ _ c.requires.0 _ _ _ _ _ c.loop-i-test.true c.loop-i.invariant.1 c.node_at-middle.ensures c.node_at-end.ensures)
    ∙ sym c.step.ensures ∙ c.in_ok-r.was))
    (c.beyond.ensures c.if-beyond.true)

pub loop-i-preserved : goal.loop-i-preserved
loop-i-preserved c = (
  more _ _ _ c.requires.0 _ _ _ c.loop-i-test.true c.loop-i.invariant.0
      (sym (by_nodes _ _ _ c.requires.0 _ _ _ _ _ c.loop-i-test.true c.loop-i.invariant.1 c.node_at-middle.ensures c.node_at-end.ensures)
      ∙ sym c.step.ensures ∙ c.in_ok-r.was),
  c.node_at-end.ensures ∙ rw (follows _ _ c.requires.0 _ c.loop-i-test.true),
)

pub returns : goal.returns
returns c =
    let is = all_done _ _ _ c.requires.0 _ _ (omega arith) c.loop-i.invariant.0 in
    (is, c.fallen.ensures ∙ sym (counted _ _ _ c.requires.0 _ is))
