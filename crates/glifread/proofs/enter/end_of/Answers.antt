-- `glifread::enter::end_of` meets its contract. Assumes nothing.
use Rattle.glifread.specs.Enter.{end_of}
use Rattle.glifread.proofs.enter.end_of.Goals as goal

pub returns : goal.returns
unfolding end_of
returns c = rw c.less.ensures
