-- RK4 for one value is RK4 over a list of one. Definitions only, for the contracts.
use Rattle.std.specs.Prelude.{◌≡◌, [], ◌∷◌, Float, Some}
use Rattle.arclen.specs.Rk4.{rk4}
use Rattle.arclen.specs.Arclen.{length_rates}
use Rattle.arclen.specs.declared.ArclenFunctor.{ArclenFunctor}

-- r is the rate of the length y at the time t
abbrev pub RatesOne : ArclenFunctor → Float → Float → Float → Type 0
RatesOne f t y r = length_rates f t (y ∷ []) ≡ Some (r ∷ [])

-- r is the length after a step of h from the length y at the time t
abbrev pub StepsOne : ArclenFunctor → Float → Float → Float → Float → Type 0
StepsOne f h t y r = rk4 (length_rates f) h t (y ∷ []) ≡ Some (r ∷ [])
