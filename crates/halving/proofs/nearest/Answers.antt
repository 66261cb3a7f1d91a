-- `halving::nearest` meets its contract. Assumes nothing.
use mir.Facts.{to_z-of_z}
use lib.Ieee.{of_bits, neg}
use Rattle.halving.proofs.Rounding.{brought_low, brought_high}
use Rattle.halving.proofs.nearest.Goals as goal

pub returns-then-r : goal.returns-then-r
unfolding of_bits neg
returns-then-r c z e b room v =
    rw (to_z-of_z (record { sfits = c.to_i16.type_inv }), c.to_i16.ensures, c.round-r.ensures)
    (brought_low room v (rw c.round-r.ensures at c.if-r.true))

pub returns : goal.returns
unfolding of_bits neg
returns c z e b room v =
    rw (to_z-of_z (record { sfits = c.to_i16-2.type_inv }), c.to_i16-2.ensures, c.round-r.ensures)
    (brought_high room v (rw c.round-r.ensures at c.if-r.false))
