-- `quickbreaks::surely_less` meets its contract, by the law `surely`. Assumes nothing.
use mathlib.Core.Path.{sym, subst}
use lib.Dec.{T}
use lib.Ieee.{binary64, fits, of_bits}
use Rattle.quickbreaks.proofs.Roots.{surely}
use Rattle.quickbreaks.proofs.surely_less.Goals as goal
use Rattle.quickbreaks.proofs.surely_less.Goals.{Start}

fits_a : (c : Start) → T (fits binary64 c.args.a)
fits_a c = subst T (sym c.well_formed.0.1) tt

fits_b : (c : Start) → T (fits binary64 c.args.b)
fits_b c = subst T (sym c.well_formed.1.0.1) tt

pub returns-then-a-b : goal.returns-then-a-b
unfolding of_bits
returns-then-a-b c = λ less.
    surely _ _ (fits_a (goal.at.returns-then-a-b c).Start) (fits_b (goal.at.returns-then-a-b c).Start) c.if-a.true c.if-a-b.true less
