-- `explicit::half_away` meets its contract. Assumes nothing.
use Rattle.explicit.proofs.Half.{below, above, step_fits, cut_fits, half_cut}
use Rattle.explicit.proofs.half_away.Goals as goal

pub overflow_sub-result : goal.overflow_sub-result
overflow_sub-result c = step_fits (below c.ranges.s c.requires c.if-s-lt0.true)

pub overflow_cast-result : goal.overflow_cast-result
overflow_cast-result c = cut_fits (below c.ranges.s c.requires c.if-s-lt0.true)

pub returns-then-s-lt0 : goal.returns-then-s-lt0
returns-then-s-lt0 c = half_cut (below c.ranges.s c.requires c.if-s-lt0.true)

pub overflow_add-result : goal.overflow_add-result
overflow_add-result c = step_fits (above c.ranges.s c.requires c.if-s-lt0.false)

pub overflow_cast-result-2 : goal.overflow_cast-result-2
overflow_cast-result-2 c = cut_fits (above c.ranges.s c.requires c.if-s-lt0.false)

pub returns : goal.returns
returns c = half_cut (above c.ranges.s c.requires c.if-s-lt0.false)
