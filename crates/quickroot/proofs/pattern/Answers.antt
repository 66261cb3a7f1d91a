-- `quickroot::pattern` meets its contract, by the laws `above` and `not_above`. Assumes nothing.
use Rattle.std.proofs.Common.{T, sym, subst}
use lib.Ieee.{binary64, fits, of_bits}
use Rattle.float.proofs.Number.{more}
use Rattle.quickroot.proofs.Normals.{above, not_above}
use Rattle.quickroot.proofs.pattern.Goals as goal
use Rattle.quickroot.proofs.pattern.Goals.{Start}

held : (c : Start) → T (fits binary64 c.args.x)
held c = subst T (sym c.well_formed.0.1) tt

pub float_to_bits-result : goal.float_to_bits-result
float_to_bits-result c = more _ _ c.if-x.true

pub returns-then-x : goal.returns-then-x
unfolding of_bits
returns-then-x c = above _ (held c.before) c.if-x.true

pub returns : goal.returns
returns c = not_above _
