use borrow.Author.Rules.{rules}
use Rattle.glyfwrite.proofs.Taking.{copied}
use mathlib.Core.Path.{sym, ◌∙◌}
use Rattle.glyfwrite.proofs.Coding.{next_fits, no_steps}
use Rattle.glyfwrite.proofs.difference.steps_fit.Goals as goal

pub loop-z-preserved : goal.loop-z-preserved
loop-z-preserved c = c.loop-z.invariant ∙ next_fits _ _ _ c.loop-z-test.true (copied (search rules))
    c.between.ensures c.fits.ensures ∙ rw c.if-not-fits.false

pub returns-then-not-fits : goal.returns-then-not-fits
returns-then-not-fits c = sym (c.loop-z.invariant ∙ next_fits _ _ _ c.loop-z-test.true (copied (search rules))
    c.between.ensures c.fits.ensures ∙ rw c.if-not-fits.true)

pub returns : goal.returns
returns c = sym (c.loop-z.invariant ∙ no_steps _ _ _ c.loop-z-test.false)
