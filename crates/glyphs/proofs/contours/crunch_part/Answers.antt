-- `glyphs::contours::crunch_part` meets its contract. Assumes nothing.
use native.Mathlib.Omega.{arith}
use Rattle.glyphs.proofs.Parts.{adds}
use Rattle.glyphs.proofs.contours.crunch_part.Goals as goal

pub returns : goal.returns
returns c = record { adds = adds c.args.points.now c.args.at c.requires.at_in_bounds _ _ _ _ _ c.crunch_into.ensures; points_bound = omega (arith, c.well_formed.1.1.1.1.1.1.1.1.1.1.0.0) }
