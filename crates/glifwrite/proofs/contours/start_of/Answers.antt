-- `glifwrite::contours::start_of` meets its contract. Assumes nothing.
use Rattle.glifwrite.specs.Contours.{start_of}
use Rattle.glifwrite.proofs.contours.start_of.Goals as goal

pub returns : goal.returns
unfolding start_of
returns c = rw (c.pick.ensures, c.end_at.ensures, c.less.ensures)
