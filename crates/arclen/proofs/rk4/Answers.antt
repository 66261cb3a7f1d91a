-- `arclen::rk4` meets its contract, by RK4's law over any number of values. Assumes nothing.
use Rattle.arclen.proofs.Laws.{step_one}
use Rattle.arclen.proofs.rk4.Goals as goal

pub returns : goal.returns
returns c =
    rw c.grown.ensures (step_one _ _ _ _ c.rate-a.ensures c.rate-b.ensures c.rate-c.ensures c.rate-d.ensures)
