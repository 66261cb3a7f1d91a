-- `contour::is_halfway` meets its contract. Assumes nothing.
use Rattle.contour.proofs.Sixteen.{same_sums}
use Rattle.contour.proofs.is_halfway.Goals as goal

pub returns : goal.returns
returns c = same_sums c.ranges.this c.ranges.this c.ranges.prev c.ranges.next
