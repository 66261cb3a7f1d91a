-- `edition::edition` meets its contract. Assumes nothing.
use native.Mathlib.Omega.{arith}
use mathlib.Core.Path.{refl}
use Rattle.edition.specs.Edition as E
use Rattle.edition.proofs.Steps.{short, edited}
use Rattle.edition.proofs.edition.Goals as goal

pub returns-then-least-n : goal.returns-then-least-n
returns-then-least-n c =
    rw (short _ _ c.args.samples.now c.args.breaks.now c.args.penalty c.least.ensures (omega (arith, c.if-least-n.true))) (E.no refl)

pub returns-in-None : goal.returns-in-None
returns-in-None c =
    edited _ _ c.args.samples.now c.args.breaks.now c.args.penalty c.requires c.least.ensures c.if-least-n.false c.optimize.ensures c.in-None.is

pub returns-in-Some-Unchanged : goal.returns-in-Some-Unchanged
returns-in-Some-Unchanged c =
    edited _ _ c.args.samples.now c.args.breaks.now c.args.penalty c.requires c.least.ensures c.if-least-n.false c.optimize.ensures (rw c.in-Some-Unchanged.field-0-is at c.in-Some-Unchanged.is)

pub returns-in-Some-Done : goal.returns-in-Some-Done
returns-in-Some-Done c =
    edited _ _ c.args.samples.now c.args.breaks.now c.args.penalty c.requires c.least.ensures c.if-least-n.false c.optimize.ensures (rw c.in-Some-Done.field-0-is at c.in-Some-Done.is)
