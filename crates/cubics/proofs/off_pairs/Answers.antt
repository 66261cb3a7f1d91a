use mathlib.Core.Path.{refl, sym, ◌∙◌}
use native.Mathlib.Omega.{arith}
use borrow.Author.Rules.{rules}
use lib.ListN.{get_or}
use Rattle.refusals.specs.Refusals.{is_on}
use Rattle.cubics.proofs.Making.{pairs_end, pairs_on, pairs_over, off_most}
use Rattle.cubics.proofs.off_pairs.Goals as goal

pub loop-i-init : goal.loop-i-init
loop-i-init c = (refl, search rules, search rules)

pub returns-then-ends_unpaired : goal.returns-then-ends_unpaired
returns-then-ends_unpaired c =
    sym (c.loop-i.invariant.0 ∙ pairs_end c.args.flags.now c.loop-i.i c.loop-i.n c.loop-i-test.true (sym c.ends_unpaired.ensures ∙ c.if-ends_unpaired.true))

pub loop-i-preserved : goal.loop-i-preserved
loop-i-preserved c = (
  c.loop-i.invariant.0 ∙ pairs_on c.args.flags.now c.loop-i.i c.loop-i.n c.off_after-n.result c.loop-i-test.true (sym c.ends_unpaired.ensures ∙ c.if-ends_unpaired.false) c.off_after-n.ensures,
  omega arith,
  rw c.off_after-n.ensures (off_most (is_on (get_or c.args.flags.now c.loop-i.i 0)) c.loop-i.n c.loop-i.i c.loop-i.invariant.2),
)

pub returns : goal.returns
returns c =
    c.unpaired.ensures ∙ sym (c.loop-i.invariant.0 ∙ pairs_over c.args.flags.now c.loop-i.i c.loop-i.n c.loop-i.invariant.1 c.loop-i-test.false)
