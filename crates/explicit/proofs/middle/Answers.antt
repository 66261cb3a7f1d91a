-- `explicit::middle` meets its contract. Assumes nothing.
use mathlib.Core.Path.{◌∙◌}
use mir.Facts.{to_z-of_z}
use borrow.Author.Rules.{sfits_of}
use Rattle.explicit.proofs.Half.{middle_fits, sum_half}
use Rattle.explicit.proofs.middle.Goals as goal

pub half_away-requires : goal.half_away-requires
half_away-requires c =
    rw (sum_half c.ranges.a c.ranges.b (sfits_of c.sum.type_inv) c.sum.ensures) (middle_fits c.ranges.a c.ranges.b).sfits

pub returns : goal.returns
returns c =
    to_z-of_z {w = mir.Syntax.w16} (sfits_of c.half_away.type_inv) ∙ c.half_away.ensures ∙ sum_half c.ranges.a c.ranges.b (sfits_of c.sum.type_inv) c.sum.ensures
