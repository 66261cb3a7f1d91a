-- `glyfwrite::flags::next_run` meets its contract. Assumes nothing.
use mathlib.Core.Path.{sym, ◌∙◌}
use Rattle.glyfwrite.proofs.Running.{goes, ends}
use Rattle.glyfwrite.proofs.flags.next_run.Goals as goal

pub returns-then-goes_on : goal.returns-then-goes_on
returns-then-goes_on c = goes _ _ _ c.requires.2 (sym c.goes_on.ensures ∙ c.if-goes_on.true)

pub returns : goal.returns
returns c = ends (sym c.goes_on.ensures ∙ c.if-goes_on.false) c.put_run-at.ensures.put c.put_run-at.ensures.upper_bound
