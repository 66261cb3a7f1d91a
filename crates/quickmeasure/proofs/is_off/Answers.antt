-- `quickmeasure::is_off` meets its contract: each test is one of its facts. Assumes nothing.
use mathlib.Core.Path.{sym, ◌∙◌, subst}
use lib.Dec.{T}
use lib.Ieee.{binary64, fits}
use Rattle.quickmeasure.proofs.is_off.Goals as goal
use Rattle.quickmeasure.proofs.is_off.Goals.{Start}

-- what owning an f64 tells
from : (c : Start) → T (fits binary64 c.args.s0)
from c = subst T (sym c.well_formed.1.0.1) tt

whole : (c : Start) → T (fits binary64 c.args.w)
whole c = subst T (sym c.well_formed.1.1.1.0.1) tt

pub returns-then-w-2 : goal.returns-then-w-2
returns-then-w-2 c h =
    record {
      from = from (goal.at.returns-then-w-2 c).Start;
      whole = whole (goal.at.returns-then-w-2 c).Start;
      spot = _;
      is = sym c.lookup.ensures ∙ c.in-Some.is;
      most = c.if-base-h.false;
      above = c.if-base.true;
      some = c.if-w.true;
      few = c.if-w-2.true;
      wide = rw c.square_norm.ensures at h;
    }
