-- `glyfwrite::write::put_code` meets its contract. Assumes nothing.
use mathlib.Core.Path.{◌∙◌}
use native.Mathlib.Omega.{arith}
use Rattle.glyfwrite.proofs.Putting.{then, same_row}
use Rattle.glyfwrite.proofs.write.put_code.Goals as goal

pub shape_of-out : goal.shape_of-out
shape_of-out c = same_row c.put_bytes.ensures ∙ same_row c.put_word-from.ensures

pub returns : goal.returns
returns c = record { put = then c.put_word-from.ensures c.put_bytes.ensures; upper_bound = omega (arith, c.put_word-from.ensures.next, c.put_bytes.ensures.next) }
