-- `glyfwrite::bounds::put_box` meets its contract. Assumes nothing.
use Rattle.glyfwrite.proofs.Putting.{same_row}
use native.Mathlib.Omega.{arith}
use borrow.Author.Rules.{rules}
use mathlib.Core.Path.{◌∙◌}
use Rattle.glyfwrite.proofs.Outer.{box_put}
use Rattle.glyfwrite.proofs.Taking.{copied}
use borrow.Author.Rules.{rules}
use Rattle.glyfwrite.proofs.bounds.put_box.Goals as goal

pub shape_of-out : goal.shape_of-out
shape_of-out c = same_row c.put_signed.ensures ∙ same_row c.put_signed-greatest_y_at.ensures ∙ same_row c.put_signed-greatest_x_at.ensures ∙ same_row c.put_signed-least_y_at.ensures

pub returns : goal.returns
returns c = record {
  put = box_put _ _ (copied (search rules) ∙ c.outermost_of.ensures)
      (copied (search rules) ∙ c.outermost_of-2.ensures)
      (copied (search rules) ∙ c.outermost_of-3.ensures)
      (copied (search rules) ∙ c.outermost_of-4.ensures) c.put_signed-least_y_at.ensures c.put_signed-greatest_x_at.ensures c.put_signed-greatest_y_at.ensures c.put_signed.ensures;
  upper_bound = omega (arith, c.put_signed-least_y_at.ensures.next, c.put_signed-greatest_x_at.ensures.next, c.put_signed-greatest_y_at.ensures.next, c.put_signed.ensures.next);
}
