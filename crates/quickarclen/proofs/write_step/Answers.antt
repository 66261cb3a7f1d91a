-- `quickarclen::write_step` meets its contract. Assumes nothing.
use Rattle.std.proofs.Common.{refl}
use Rattle.quickarclen.specs.Stages.{with_step}
use Rattle.quickarclen.proofs.write_step.Goals as goal

pub returns : goal.returns
unfolding with_step
returns c = (refl, c.grown.ensures)
