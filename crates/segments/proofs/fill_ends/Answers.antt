use mathlib.Core.Path.{refl, ap, ◌∙◌}
use Rattle.samples.specs.Samples.{quad_of}
use Rattle.segments.proofs.Going.{ends_start, ends_more, ends_all}
use Rattle.segments.proofs.fill_ends.Goals as goal

pub loop-k-init : goal.loop-k-init
loop-k-init c = ends_start _ _ _ _ _ _ c.requires (rw c.start_of-a.ensures refl)

pub loop-k-preserved : goal.loop-k-preserved
loop-k-preserved c = ends_more _ _ _ _ _ c.loop-k.invariant c.loop-k-test.true (c.as_quad.ensures ∙ ap quad_of c.read_from.ensures) c.length_after-y.ensures c.end_of-a.ensures

pub returns : goal.returns
returns c = ends_all _ _ _ _ _ c.loop-k.invariant c.loop-k-test.false
