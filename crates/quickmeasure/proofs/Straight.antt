-- The speeds of a straight piece have one square, so that its speed changes evenly where it does at the start. Assumes nothing.
use Rattle.float.specs.Numbers.{nought}
use Rattle.quickarclen.specs.Straight.{Straight}
use Rattle.arclen.specs.declared.ArclenFunctor.{ArclenFunctor}
use Rattle.quickarclen.proofs.Straight.{one_square}
use Rattle.quickmeasure.specs.Ahead.{square_at, EvenStep, Even}

-- one step tells of all
pub straight_even : (f : ArclenFunctor) → Straight f → EvenStep (square_at f nought) (square_at f nought) (square_at f nought) → Even f 10
straight_even f s e = record { is = λ i less. let o = one_square f s i less in rw (o.first, o.half, o.last) e }
