-- `quickmeasure::set_out` meets its contract. Assumes nothing.
use Rattle.quickarclen.proofs.Laws.{length_whole}
use Rattle.quickmeasure.proofs.set_out.Goals as goal

pub returns : goal.returns
returns c =
    (rw (c.stretch-ss.ensures, length_whole _ _ _ c.new-af.ensures c.walk.ensures.whole, c.new-af.ensures), c.walk.ensures.written)
