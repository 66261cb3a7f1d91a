-- The statements of specs/WholeUnits. Assumes nothing.
use mathlib.Core.Bool.{true}
use mathlib.Core.Path.{◌≡◌, refl, ap, subst, ◌∙◌}
use lib.Dec.{T}
use lib.Ieee.{Float, binary64, mul}
use lib.Ieee.Fits.{mul-fits}
use lib.Ieee.Scale.{finite}
use Rattle.float.specs.Numbers.{one}
use Rattle.float.specs.Float.{to_nearest, round_of}
use Rattle.float.proofs.Own.{one_times}
use Rattle.float.proofs.Exact.{whole_fits}
use Rattle.geometry.specs.Geometry.{is_int, is_whole, Finite}
use Rattle.geometry.specs.declared.Point.{Point}
use Rattle.geometry.proofs.Whole.{round_int}
use Rattle.breaks.specs.Breaks.{on_grid, whole_grid}
use Rattle.breaks.specs.Laws.{Brought, found_on}
use Rattle.breaks.specs.WholeUnits.{WholeIsRound, WholeOnUnits, NoneOffUnits}

-- the product is an f64 even where x is none
rounded : (x : Float) → on_grid whole_grid x ≡ round_of (mul binary64 one x)
rounded x = one_times (round_of (mul binary64 one x)) (whole_fits to_nearest (mul binary64 one x))

pub whole_is_round : WholeIsRound
whole_is_round x f = rounded x ∙ ap round_of (one_times x f)

pub whole_on_units : WholeOnUnits
whole_on_units x t = rw (rounded x) (round_int (mul binary64 one x) (mul-fits binary64 one x) (subst (λ (y : Float). T (finite y)) (rounded x) t))

on_units : (q x : Float) → q ≡ on_grid whole_grid x → T (finite q) → is_int q ≡ true
on_units q x e t = rw e (whole_on_units x (subst (λ (y : Float). T (finite y)) e t))

-- a finite point of the grid
pub brought_whole : (q : Point) → Brought whole_grid q → Finite q → is_whole q ≡ true
brought_whole q b t = rw (on_units q.x b.of.x b.x t.0, on_units q.y b.of.y b.y t.1) refl

pub none_off_units : NoneOffUnits
none_off_units room samples len row e i h t = brought_whole _ (found_on room samples whole_grid len row e i h) t
