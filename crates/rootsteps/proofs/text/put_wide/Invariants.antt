-- The measure is the unit, which falls tenfold.
use Rattle.rootsteps.proofs.text.put_wide.Given as goal

abbrev pub invariant-loop-unit : goal.invariant-loop-unit
invariant-loop-unit l = Unit {0}

abbrev pub decreases-loop-unit : goal.decreases-loop-unit
decreases-loop-unit l = l.unit
