-- `segments::name` meets its contract. Assumes nothing.
use mathlib.Core.Path.{sym}
use native.Mathlib.Omega.{arith}
use lib.Seq.{length-take-le}
use Rattle.segments.proofs.Numbers.{in_array, few_taken}
use Rattle.segments.proofs.name.Goals as goal

pub fill_ends-requires : goal.fill_ends-requires
fill_ends-requires c = in_array _ _ c.saturating_sub-n.ensures c.requires.1

pub slice_bounds-name_each-end : goal.slice_bounds-name_each-end
slice_bounds-name_each-end c = sym (length-take-le _ _ (omega (arith, in_array _ _ c.saturating_sub-n.ensures c.requires.1, c.fill_ends.auto.ends)))

pub name_each-requires : goal.name_each-requires
name_each-requires c = (c.requires.0, few_taken c.fill_ends.new.ends c.saturating_sub-n.result 2048 (omega (arith, c.saturating_sub-n.ensures, c.requires.1)))
