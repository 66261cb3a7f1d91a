-- `explicit::write_out` meets its contract. Assumes nothing.
use mathlib.Core.Path.{◌∙◌}
use Rattle.contour.specs.Output.{outputs}
use Rattle.explicit.proofs.Writing.{over_refused, short_refused, all_written}
use Rattle.explicit.proofs.write_out.Goals as goal

pub returns-then-w : goal.returns-then-w
returns-then-w c = λ ps wrote. over_refused ps wrote (outputs c.args.ox.now c.args.oy.now c.args.of.now) c.if-w.true

pub returns-then-least-n : goal.returns-then-least-n
returns-then-least-n c =
    λ ps wrote. short_refused ps wrote (outputs c.args.ox.now c.args.oy.now c.args.of.now) c.if-w.false (c.least-2.ensures ∙ rw c.least.ensures) c.if-least-n.true

pub returns : goal.returns
returns c =
    λ ps wrote. all_written ps wrote (outputs c.args.ox.now c.args.oy.now c.args.of.now) c.if-w.false (c.least-2.ensures ∙ rw c.least.ensures) c.if-least-n.false c.copy_out.ensures
