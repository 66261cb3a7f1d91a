-- `glifread::read::read_glif` meets its contract. Assumes nothing.
use mathlib.Core.Path.{◌∙◌}
use Rattle.glifread.proofs.Leaving.{read_answer, read_left}
use Rattle.glifread.proofs.read.read_glif.Goals as goal

pub shape_of-ends : goal.shape_of-ends
shape_of-ends c = c.enter_all.auto.ends

pub shape_of-xs : goal.shape_of-xs
shape_of-xs c = c.enter_all.auto.xs

pub shape_of-ys : goal.shape_of-ys
shape_of-ys c = c.enter_all.auto.ys

pub shape_of-flags : goal.shape_of-flags
shape_of-flags c = c.enter_all.auto.flags

pub shape_of-points : goal.shape_of-points
shape_of-points c = c.clear-2.auto.points ∙ c.judge-f.auto.points ∙ c.clear.auto.points

pub returns : goal.returns
returns c = record {
  answer = read_answer c.args.bytes.now c.args.ends.now c.args.xs.now c.args.ys.now c.args.flags.now c.args.points.now c.clear.ensures c.judge-f.ensures (c.judge-f.auto.points ∙ c.clear.auto.points) c.refuse-k.ensures (rw c.is_some.ensures at c.pick.ensures) c.enter_all.ensures c.clear-2.ensures c.answer_of.ensures;
  left = read_left c.args.bytes.now c.args.ends.now c.args.xs.now c.args.ys.now c.args.flags.now c.args.points.now c.clear.ensures c.judge-f.ensures (c.judge-f.auto.points ∙ c.clear.auto.points) c.refuse-k.ensures (rw c.is_some.ensures at c.pick.ensures) c.enter_all.ensures c.clear-2.ensures c.answer_of.ensures;
}
