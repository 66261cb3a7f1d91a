-- `glyfread::read::judge` meets its contract. Assumes nothing.
use mathlib.Core.Path.{subst}
use Rattle.refusals.proofs.Passing.{handed_up}
use Rattle.glyfread.specs.Reads.{Finds}
use Rattle.glyfread.proofs.read.judge.Goals as goal

pub judge_at-requires : goal.judge_at-requires
judge_at-requires c = subst (Finds _) c.in_ok-p.was c.locate.ensures

pub returns-in_err-p : goal.returns-in_err-p
returns-in_err-p c = rw (handed_up c.from_residual.result _ c.from_residual.ensures.1) (subst (Finds _) c.in_err-p.was c.locate.ensures)
