-- `quickarclen::speeds_on` meets its contract. Assumes nothing.
use Rattle.quickarclen.proofs.Filling.{speeds_ready}
use Rattle.quickarclen.proofs.speeds_on.Goals as goal

pub returns : goal.returns
returns c =
    (c.fill_roots.ensures.long, speeds_ready c.args.v.now c.requires.0 c.requires.1 c.fill_squares.ensures c.fill_roots.ensures)
