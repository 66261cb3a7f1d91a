use Rattle.quicksamples.proofs.Turns.{neither, one_not_due}
use Rattle.quicksamples.proofs.is_due.Goals as goal

pub loop-i-preserved : goal.loop-i-preserved
loop-i-preserved c =
    (c.loop-i.invariant.0, λ e. let both = neither _ _ e in one_not_due (c.loop-i.invariant.1 both.0) both.1)
