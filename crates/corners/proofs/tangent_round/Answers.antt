use Rattle.std.proofs.Common.{◌∙◌, ap}
use Rattle.corners.specs.Corners.{tangent_corner}
use Rattle.corners.proofs.Rounds.{tangents_start, tangents_more, tangents_all}
use Rattle.corners.proofs.tangent_round.Goals as goal

pub loop-k-init : goal.loop-k-init
loop-k-init c = tangents_start _ c.last_arriving-before.ensures

pub loop-k-preserved : goal.loop-k-preserved
loop-k-preserved c =
    tangents_more c.loop-k.invariant c.loop-k-test.true c.read_from-s.ensures
    (c.bends.ensures ∙ ap (tangent_corner _) c.leaving.ensures)
    c.mark_if.ensures
    c.arriving-before.ensures
    c.end_of-a.ensures

pub returns : goal.returns
returns c = tangents_all c.loop-k.invariant c.loop-k-test.false
