-- `glyfwrite::put::put_word` meets its contract. Assumes nothing.
use Rattle.glyfwrite.proofs.Putting.{word_put}
use Rattle.glyfwrite.proofs.put.put_word.Goals as goal

pub returns : goal.returns
returns c = word_put c.args.v c.ranges.v.fits c.to_be_bytes.ensures c.put_byte-next.ensures c.put_byte.ensures
