-- `glyfwrite::write::put_head` meets its contract. Assumes nothing.
use mathlib.Core.Path.{◌∙◌}
use native.Mathlib.Omega.{arith}
use Rattle.glyfwrite.proofs.Putting.{then, same_row}
use Rattle.glyfwrite.proofs.write.put_head.Goals as goal

pub shape_of-out : goal.shape_of-out
shape_of-out c = same_row c.put_words.ensures.put ∙ same_row c.put_box-ends_at.ensures.put ∙ same_row c.put_word-box_at.ensures

pub returns : goal.returns
returns c = record { put = then c.put_word-box_at.ensures (then c.put_box-ends_at.ensures.put c.put_words.ensures.put); upper_bound = omega (arith, c.put_word-box_at.ensures.next, c.put_box-ends_at.ensures.upper_bound, c.put_words.ensures.upper_bound) }
