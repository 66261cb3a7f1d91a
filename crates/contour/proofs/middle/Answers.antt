-- `contour::middle` meets its contract. Assumes nothing.
use Rattle.std.proofs.Common.{◌∙◌}
use borrow.Author.Rules.{sfits_of}
use Rattle.contour.proofs.Sixteen.{half_is, sum_back}
use Rattle.contour.proofs.middle.Goals as goal

pub returns : goal.returns
returns c =
    half_is {z = c.wrapping_add_i16.result} (sfits_of c.wrapping_add_i16.type_inv) (c.wrapping_add_i16.ensures ∙ sum_back c.args.a c.args.b c.ranges.a c.ranges.b)
