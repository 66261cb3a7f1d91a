use Rattle.std.proofs.Common.{◌∙◌, ap, sym, le_antisymm}
use Rattle.outline.specs.Segments.{end_of, place_after}
use Rattle.outline.specs.Laws.{place_none, place_more}
use Rattle.outline.proofs.place_after.Goals as goal

pub loop-i-init : goal.loop-i-init
loop-i-init c = place_none _ _

pub loop-i-preserved : goal.loop-i-preserved
loop-i-preserved c = c.end_of-place.ensures ∙ ap (end_of _) c.loop-i.invariant ∙ sym (place_more _ _ _)

pub returns : goal.returns
returns c = c.loop-i.invariant ∙ ap (place_after _ _) (le_antisymm c.loop-i.auto._i-end c.loop-i-test.false)
