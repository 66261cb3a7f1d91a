-- `clean::clean_contour` meets its contract. Assumes nothing.
use mathlib.Core.Path.{sym, ◌∙◌}
use Rattle.refusals.specs.Accepted.{accepted}
use Rattle.clean.proofs.clean_contour.Goals as goal

pub clean_fine-requires : goal.clean_fine-requires
clean_fine-requires c = accepted _ _ _ (sym c.judge.ensures ∙ c.in_ok-judge.was)
