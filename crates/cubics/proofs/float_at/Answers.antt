-- `cubics::float_at` meets its contract. Assumes nothing.
use Prim.Native.Nat.{◌^◌}
use mir.Syntax.{w16}
use mir.Facts.{to_z-of_z}
use borrow.Author.Rules.{sfits_of}
use lib.Dec.{lit≤}
use lib.Signed.{nat_abs-le}
use Rattle.float.proofs.Dyadic.{whole_exact}
use Rattle.cubics.proofs.float_at.Goals as goal

pub returns : goal.returns
returns c =
    rw (to_z-of_z {w = w16} {z = c.coordinate.result} (sfits_of c.coordinate.type_inv), ← c.coordinate.ensures) (whole_exact c.coordinate.result (2 ^ 15) (nat_abs-le c.coordinate.result c.coordinate.type_inv) (lit≤ tt))
