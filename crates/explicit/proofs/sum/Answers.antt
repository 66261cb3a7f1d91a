-- `explicit::sum` meets its contract. Assumes nothing.
use Rattle.contour.proofs.Sixteen.{widened, added_fits, sum_is}
use Rattle.explicit.proofs.sum.Goals as goal

pub overflow_cast-result : goal.overflow_cast-result
overflow_cast-result c = widened c.ranges.a

pub overflow_cast-result-2 : goal.overflow_cast-result-2
overflow_cast-result-2 c = widened c.ranges.b

pub overflow_add-result : goal.overflow_add-result
overflow_add-result c = added_fits c.ranges.a c.ranges.b

pub returns : goal.returns
returns c = sum_is c.ranges.a c.ranges.b
