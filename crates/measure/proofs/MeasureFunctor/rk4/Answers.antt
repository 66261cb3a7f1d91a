-- `measure::MeasureFunctor::rk4` meets its contract, by RK4's law over any number of values. Assumes nothing.
use Rattle.arclen.proofs.Laws.{stops1}
use Rattle.measure.proofs.Steps.{refused_second, refused_third, refused_fourth, two_values}
use Rattle.measure.proofs.MeasureFunctor.rk4.Goals as goal

pub returns-in_err-a : goal.returns-in_err-a
returns-in_err-a c = rw c.from_residual.ensures (stops1 _ _ _ _ (rw c.in_err-a.was at c.rate.ensures))

pub returns-in_err-b : goal.returns-in_err-b
returns-in_err-b c =
    let p = rw c.in_ok-a.was at c.rate.ensures in
    let none = rw (c.move_both.ensures, c.in_err-b.was) at c.rate-2.ensures in
    rw c.from_residual-in_err-b.ensures (refused_second _ _ _ _ _ p none)

pub returns-in_err-c : goal.returns-in_err-c
returns-in_err-c c =
    let p = rw c.in_ok-a.was at c.rate.ensures in
    let q = rw (c.move_both.ensures, c.in_ok-b.was) at c.rate-2.ensures in
    let none = rw (c.move_both-2.ensures, c.in_err-c.was) at c.rate-3.ensures in
    rw c.from_residual-in_err-c.ensures (refused_third _ _ _ _ _ p q none)

pub returns-in_err-d : goal.returns-in_err-d
returns-in_err-d c =
    let p = rw c.in_ok-a.was at c.rate.ensures in
    let q = rw (c.move_both.ensures, c.in_ok-b.was) at c.rate-2.ensures in
    let r = rw (c.move_both-2.ensures, c.in_ok-c.was) at c.rate-3.ensures in
    let none = rw (c.move_both-3.ensures, c.in_err-d.was) at c.rate-4.ensures in
    rw c.from_residual-in_err-d.ensures (refused_fourth _ _ _ _ _ p q r none)

pub returns : goal.returns
returns c =
    let p = rw c.in_ok-a.was at c.rate.ensures in
    let q = rw (c.move_both.ensures, c.in_ok-b.was) at c.rate-2.ensures in
    let r = rw (c.move_both-2.ensures, c.in_ok-c.was) at c.rate-3.ensures in
    let s = rw (c.move_both-3.ensures, c.in_ok-d.was) at c.rate-4.ensures in
    rw c.grow_both.ensures (two_values _ _ _ _ _ p q r s)
