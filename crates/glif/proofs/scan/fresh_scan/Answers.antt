-- `glif::scan::fresh_scan` meets its contract. Assumes nothing.
use Rattle.glif.proofs.scan.fresh_scan.Goals as goal

pub returns : goal.returns
returns c = cc
