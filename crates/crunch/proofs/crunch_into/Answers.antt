-- `crunch::crunch_into` meets its contract. Assumes nothing.
use mathlib.Core.Path.{refl, ◌∙◌}
use Rattle.refusals.proofs.Passing.{handed_up}
use Rattle.crunch.specs.Stands.{no}
use Rattle.crunch.proofs.End.{counted, gives_outcome}
use Rattle.crunch.proofs.Whole.{judged_gives}
use Rattle.crunch.proofs.crunch_into.Goals as goal

pub finish-requires : goal.finish-requires
finish-requires c = counted c.crunch_points-c.ensures

pub returns-in_err-judge : goal.returns-in_err-judge
returns-in_err-judge c =
    rw (handed_up c.from_residual.result _ c.from_residual.ensures.1) (judged_gives _ _ _ _ _ _ c.judge.ensures c.in_err-judge.was (no refl))

pub returns : goal.returns
returns c = judged_gives _ _ _ _ _ _ c.judge.ensures c.in_ok-judge.was (gives_outcome _ c.crunch_points-c.ensures c.finish.ensures)
