-- `idle::drop_idle` meets its contract. Assumes nothing.
use mathlib.Core.Path.{sym, ◌∙◌}
use Rattle.refusals.specs.Accepted.{accepted}
use Rattle.idle.proofs.drop_idle.Goals as goal

pub drop_fine-requires : goal.drop_fine-requires
drop_fine-requires c = accepted _ _ _ (sym c.judge.ensures ∙ c.in_ok-judge.was)
