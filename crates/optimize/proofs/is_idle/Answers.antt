-- `optimize::is_idle` meets its contract: each way to `true` is one of the two reasons. Assumes nothing.
use borrow.Author.Tests.{not-true}
use native.Mathlib.Omega.{arith}
use mathlib.Core.Bool.{false≢true}
use mathlib.Core.Path.{sym, ◌∙◌}
use Rattle.optimize.specs.Steps.{beaten, untried}
use Rattle.optimize.proofs.Trying.{break_of, is_whole_of}
use Rattle.optimize.proofs.is_idle.Goals as goal

pub offset_bounds-breaks-j : goal.offset_bounds-breaks-j
offset_bounds-breaks-j c = omega (arith, (break_of _ c.requires.1).1)

pub bounds-breaks-j : goal.bounds-breaks-j
bounds-breaks-j c = (break_of _ c.requires.1).0

pub returns-then-sees_any : goal.returns-then-sees_any
returns-then-sees_any c h =
    beaten (c.sees_any.ensures c.if-sees_any.true) (rw c.standing-previous.ensures at (c.never_below.ensures c.if-never_below.true))

pub returns-then-is_curve : goal.returns-then-is_curve
returns-then-is_curve c h = absurd (false≢true h)

pub read-requires : goal.read-requires
read-requires c = (break_of _ c.requires.1).0

pub returns : goal.returns
returns c h =
    untried (is_whole_of c.is_whole.ensures c.read.ensures (not-true _ h))
    (rw c.standing-previous.ensures at (sym c.is_curve.ensures ∙ c.if-is_curve.false))
