-- `measure::stretch` meets its contract. Assumes nothing.
use mathlib.Core.Path.{sym, ◌∙◌}
use Rattle.measure.specs.Measure.{stretch_of}
use Rattle.measure.proofs.stretch.Goals as goal

pub returns-then-is_close : goal.returns-then-is_close
unfolding stretch_of
returns-then-is_close c = rw (sym c.is_close.ensures ∙ c.if-is_close.true)

pub returns-else-is_close : goal.returns-else-is_close
unfolding stretch_of
returns-else-is_close c = rw (sym c.is_close.ensures ∙ c.if-is_close.false)
