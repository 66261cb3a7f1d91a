use mathlib.Core.Path.{refl}
use native.Mathlib.Numerals.{add-one}
use borrow.Author.Count.{below_none}
use Rattle.quickarclen.specs.Stages.{time_at}
use Rattle.quickmeasure.proofs.Even.{one_more}
use Rattle.quickmeasure.proofs.is_even_in_steps.Goals as goal

pub loop-init : goal.loop-init
unfolding time_at
loop-init c = (refl, rw (c.square_norm-first.ensures, c.deriv.ensures), record { is = below_none _ })

pub loop-preserved : goal.loop-preserved
unfolding time_at
loop-preserved c =
    let last = rw c.deriv-in-loop-2.ensures at c.square_norm-end.ensures in (
      rw (c.loop.invariant.0, add-one c.loop.counter),
      last,
      one_more c.loop.invariant.2 c.loop.invariant.0 c.loop.invariant.1 (rw c.deriv-in-loop.ensures at c.square_norm-middle.ensures) last
          (c.is_even_step.ensures c.if-not-is_even_step.false),
    )
