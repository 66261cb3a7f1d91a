-- `quickarclen::unmoved` meets its contract. Assumes nothing.
use Rattle.std.proofs.Common.{sym, subst, T}
use Rattle.quickarclen.proofs.unmoved.Goals as goal

pub returns : goal.returns
returns c h = record { whole = subst T (sym c.well_formed.0.1) tt; none = h }
