-- `quicklookup::likely` meets its contract. Assumes nothing.
use Rattle.float.proofs.Number.{more}
use Rattle.quicklookup.proofs.likely.Goals as goal

pub float_to_bits-result : goal.float_to_bits-result
float_to_bits-result c = more _ _ c.if-z-half_below.true
