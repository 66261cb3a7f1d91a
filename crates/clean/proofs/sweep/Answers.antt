-- `clean::sweep` meets its contract. Assumes nothing.
use Rattle.clean.proofs.Sweeping.{as_roomy, held}
use Rattle.clean.proofs.sweep.Goals as goal

pub returns : goal.returns
returns c =
    held c.args.xs.now c.args.ys.now c.args.flags.now _ c.requires.0
    (as_roomy c.requires.1 c.pass-at.auto.kept c.pass-at.auto.gone) c.pass-at.ensures c.close.ensures
