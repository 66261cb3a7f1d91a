-- The refusals have the numbers from 1 to 21, in the order of docs/REFUSALS.md: by computation. Assumes nothing.
use Rattle.std.specs.Prelude.{refl}
use Rattle.refusals.specs.Number.{NumbersRise}

pub numbers_rise : NumbersRise
numbers_rise = refl
