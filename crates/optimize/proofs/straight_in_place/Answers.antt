-- `optimize::straight_in_place` meets its contract. Assumes nothing.
use mathlib.Core.Path.{sym, subst}
use lib.Dec.{T}
use Rattle.optimize.proofs.One.{in_place_lem}
use Rattle.optimize.proofs.straight_in_place.Goals as goal

pub returns : goal.returns
returns c = record {
  is = (in_place_lem c.args.samples.now c.args.s (record { x = c.args.x; y = c.args.y }) (subst T (sym c.well_formed.1.1.0.1) tt) (subst T (sym c.well_formed.1.1.1.0.1) tt)
      c.line.ensures c.measure_quad.ensures).0;
  spoilt = (in_place_lem c.args.samples.now c.args.s (record { x = c.args.x; y = c.args.y }) (subst T (sym c.well_formed.1.1.0.1) tt) (subst T (sym c.well_formed.1.1.1.0.1) tt)
      c.line.ensures c.measure_quad.ensures).1;
}
