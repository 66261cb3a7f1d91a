use Rattle.std.proofs.lemmas.Bool.Decides.{nat_tests}
use borrow.Author.Rules.{rules}
use native.Mathlib.Omega.{arith}
use mathlib.Core.Path.{sym, ◌∙◌}
use Rattle.glyfwrite.proofs.Taking.{copied}
use Rattle.glyfwrite.proofs.Outer.{none, first, next, last}
use Rattle.glyfwrite.proofs.bounds.outermost_of.Goals as goal

pub returns-then-is_empty : goal.returns-then-is_empty
returns-then-is_empty c = none _ _ (grind (arith, nat_tests))

pub loop-i-init : goal.loop-i-init
loop-i-init c = first _ _ (λ e. grind (arith, nat_tests)) (copied (search rules))

pub loop-i-preserved : goal.loop-i-preserved
loop-i-preserved c = c.loop-i.invariant ∙ next _ _ _ _ c.loop-i-test.true (copied (search rules))
    (copied (search rules) ∙ c.further_of-z.ensures)

pub returns : goal.returns
returns c = sym (c.loop-i.invariant ∙ last _ _ _ _ c.loop-i-test.false)
