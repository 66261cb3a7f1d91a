-- `corners::segment_sp` meets its contract. `corners_are` puts what the three rounds ensure together. Assumes nothing.
use Rattle.std.proofs.Common.{◌≡◌, length, rules}
use Rattle.corners.specs.Corners.{none}
use Rattle.corners.proofs.Rounds.{corners_are}
use Rattle.corners.proofs.segment_sp.Goals as goal

pub returns-clause-marks : goal.returns-clause-marks
returns-clause-marks c =
    let blank : c.fill.new.self ≡ none (length c.args.marks.now) = search rules in
    corners_are _ _ _ _ c.count-m.ensures blank
    (c.sign_round-s.ensures.marks, c.sign_round-s.ensures.state)
    c.sign_round.ensures.marks
    c.tangent_round.ensures
