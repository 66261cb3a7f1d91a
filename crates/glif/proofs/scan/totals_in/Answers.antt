-- `glif::scan::totals_in` meets its contract. Assumes nothing.
use Rattle.glif.specs.Scan.{totals_of}
use Rattle.glif.proofs.scan.totals_in.Goals as goal

pub returns : goal.returns
unfolding totals_of
returns c = cc
