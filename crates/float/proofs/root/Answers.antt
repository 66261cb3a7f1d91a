-- `float::root` meets its contract: each arm ends what `radicand_of` leaves. Assumes nothing.
use Rattle.std.proofs.Common.{◌∙◌}
use Rattle.float.specs.Float.{root_of}
use Rattle.float.specs.Steps.{Leaves}
use Rattle.float.specs.declared.Radicand.TheVariants.{Scaled}
use Rattle.float.proofs.Scaled.{root_in}
use Rattle.float.proofs.root.Goals as goal
use Rattle.float.proofs.root.Goals.{In-Scaled}

left : (c : In-Scaled) → Leaves (root_of c.args.x) (Scaled c.in-Scaled.word c.in-Scaled.power)
left c = rw c.in-Scaled.is at c.radicand_of.ensures

pub from_digits-requires : goal.from_digits-requires
from_digits-requires c =
    let l = left c.before in
    let p = root_in l.0 in
    rw c.root_digits.ensures (p.0, p.1, l.1)

pub returns-in-Answer : goal.returns-in-Answer
returns-in-Answer c = rw c.in-Answer.is at c.radicand_of.ensures

pub returns-in-Scaled : goal.returns-in-Scaled
returns-in-Scaled c = c.from_digits.ensures ∙ rw c.root_digits.ensures (left c.before.before).2
