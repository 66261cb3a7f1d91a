-- `assembly::crunch_few` meets its contract. Assumes nothing.
use native.Mathlib.Omega.{arith}
use mathlib.Core.Path.{sym}
use lib.Seq.{length-take-le}
use Rattle.assembly.proofs.Going.{listed_few}
use borrow.Author.Rules.{rules}
use Rattle.assembly.proofs.crunch_few.Goals as goal

pub slice_bounds-list_stops-end : goal.slice_bounds-list_stops-end
slice_bounds-list_stops-end c = search rules

pub list_stops-n-requires : goal.list_stops-n-requires
list_stops-n-requires c = search rules

pub slice_bounds-list-end : goal.slice_bounds-list-end
slice_bounds-list-end c = search rules

pub slice_bounds-crunch_listed-end : goal.slice_bounds-crunch_listed-end
slice_bounds-crunch_listed-end c = sym (length-take-le _ _ c.list_stops-n.ensures.within)

pub crunch_listed-requires : goal.crunch_listed-requires
crunch_listed-requires c =
    (listed_few c.list_stops-n.ensures (omega (arith, c.list_stops-n.auto.list)), c.list_stops-n.ensures.are)

pub shape_of-samples : goal.shape_of-samples
shape_of-samples c = c.crunch_listed.auto.samples

pub shape_of-breaks : goal.shape_of-breaks
shape_of-breaks c = c.crunch_listed.auto.breaks

pub shape_of-answers : goal.shape_of-answers
shape_of-answers c = c.crunch_listed.auto.answers

pub shape_of-links : goal.shape_of-links
shape_of-links c = c.crunch_listed.auto.links

pub shape_of-points : goal.shape_of-points
shape_of-points c = c.crunch_listed.auto.points

pub returns : goal.returns
returns c = c.crunch_listed.ensures
