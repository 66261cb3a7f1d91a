-- `quickarclen::same_speeds` meets its contract. Assumes nothing.
use Rattle.std.proofs.Common.{◌∙◌}
use lib.ListN.{length-replicate, get_or-replicate}
use lib.Ieee.{nan}
use Rattle.arclen.specs.Arclen.{speed_of}
use Rattle.quickarclen.proofs.same_speeds.Goals as goal

pub returns : goal.returns
unfolding speed_of
returns c = record { long = length-replicate 21 c.root.result; is = λ j less. get_or-replicate 21 j c.root.result nan less ∙ c.root.ensures ∙ rw c.square.ensures }
