-- `glif::scan::refusal_of` meets its contract. Assumes nothing.
use Rattle.glif.specs.Scan.{refusal_of}
use Rattle.glif.proofs.scan.refusal_of.Goals as goal

pub returns : goal.returns
unfolding refusal_of
returns c = cc
