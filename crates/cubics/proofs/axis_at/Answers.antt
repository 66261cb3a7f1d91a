-- `cubics::axis_at` meets its contract. Assumes nothing.
use Rattle.cubics.proofs.axis_at.Goals as goal

pub returns : goal.returns
returns c = record {
  p0 = c.float_at.ensures;
  p1 = c.float_at-2.ensures;
  p2 = c.float_at-3.ensures;
  p3 = rw c.after_pair.ensures at c.float_at-4.ensures;
}
