-- `cubics::write_made` meets its contract. Assumes nothing.
use mathlib.Core.Path.{◌∙◌}
use Rattle.contour.specs.Output.{outputs}
use Rattle.cubics.proofs.Writing.{over_refused, far_refused, short_refused, all_written}
use Rattle.cubics.proofs.write_made.Goals as goal

pub returns-then-m : goal.returns-then-m
returns-then-m c = λ ps made. over_refused ps made (outputs c.args.ox.now c.args.oy.now c.args.of.now) c.if-m.true

pub returns-then-m-2 : goal.returns-then-m-2
returns-then-m-2 c = λ ps made. far_refused ps made (outputs c.args.ox.now c.args.oy.now c.args.of.now) c.if-m.false c.if-m-2.true

pub returns-then-least-n : goal.returns-then-least-n
returns-then-least-n c = λ ps made. short_refused ps made (outputs c.args.ox.now c.args.oy.now c.args.of.now) c.if-m.false c.if-m-2.false (c.least-2.ensures ∙ rw c.least.ensures) c.if-least-n.true

pub returns : goal.returns
returns c =
    λ ps made.
    all_written ps made (outputs c.args.ox.now c.args.oy.now c.args.of.now) c.if-m.false c.if-m-2.false (c.least-2.ensures ∙ rw c.least.ensures) c.if-least-n.false c.copy_out.ensures
