use mathlib.Core.Path.{refl, ◌∙◌}
use Rattle.quickarclen.specs.Stages.{time_at}
use Rattle.quickmeasure.specs.Terms.{sums_of}
use Rattle.quickmeasure.proofs.Laws.{sums_next}
use Rattle.quickmeasure.proofs.Stored.{starts, middles, follows}
use Rattle.quickmeasure.proofs.total.Goals as goal

pub loop-i-init : goal.loop-i-init
unfolding sums_of time_at
loop-i-init c = (refl, c.node_at-n.ensures)

pub loop-i-preserved : goal.loop-i-preserved
loop-i-preserved c = (
  c.grown-e.ensures
      ∙ sums_next _ _ _ _ _ _ _ c.loop-i.invariant.0 (c.term-a.ensures ∙ rw (c.loop-i.invariant.1, starts _ _ c.requires _ c.loop-i-test.true)) (c.term-b.ensures ∙ rw c.node_at-middle.ensures)
      (c.term-c.ensures ∙ rw (c.node_at-middle.ensures, middles _ _ c.requires _ c.loop-i-test.true)) (c.term-d.ensures ∙ rw c.node_at-end.ensures),
  c.node_at-end.ensures ∙ rw (follows _ _ c.requires _ c.loop-i-test.true),
)
