-- `glifread::read::refuse` meets its contract. Assumes nothing.
use Rattle.glifread.specs.Reads.{refusal}
use Rattle.glifread.proofs.read.refuse.Goals as goal

pub returns : goal.returns
unfolding refusal
returns c = rw (
  c.or.ensures,
  c.pick-short.ensures,
  c.pick-3.ensures,
  c.pick-output.ensures,
  c.pick-2.ensures,
  c.pick.ensures,
)
