-- RK4 for two values, the length and the error, is RK4 over a list of two. Definitions only, for the contracts.
use Rattle.std.specs.Prelude.{ℕ, ◌≤◌, ◌≡◌, List, [], ◌∷◌, Float, Option, Some, None}
use Rattle.arclen.specs.Rk4.{moved_by, grown_by, rk4}
use Rattle.measure.specs.Measure.{apply_of}
use Rattle.measure.specs.Fallen.{asked_in, fallen_at, fallen_among}
use Rattle.measure.specs.declared.MeasureFunctor.{MeasureFunctor}
use Rattle.measure.specs.declared.Pair.{Pair}
use Rattle.measure.specs.declared.Rated.{Rated}

abbrev pub list_of : Pair → List Float
list_of y = y.length ∷ y.error ∷ []

abbrev pub both_moved : Float → Pair → Pair → Pair
both_moved a y k = record { length = moved_by a y.length k.length; error = moved_by a y.error k.error }

abbrev pub both_grown : Float → Pair → Pair → Pair → Pair → Pair → Pair
both_grown h y a b c d = record {
  length = grown_by h y.length a.length b.length c.length d.length;
  error = grown_by h y.error a.error b.error c.error d.error;
}

module _ (row : List (List Float)) (m : MeasureFunctor) where
  -- the rates k at the time t, with n of two lookups fallen
  pub record Rate (t : Float) (y k : Pair) (n : ℕ) : Type 0 where
    pub is : apply_of row m t (list_of y) ≡ Some (list_of k)
    pub count : n ≡ fallen_at row m y.length
    pub few : n ≤ 2

  abbrev pub RatesTwo : Float → Pair → Option Rated → Type 0
  RatesTwo t y (Some r) = Rate t y r.pair r.fallen
  RatesTwo t y None = apply_of row m t (list_of y) ≡ None

  -- the values z after a step of h, with n of eight lookups fallen
  pub record Step (h t : Float) (y z : Pair) (n : ℕ) : Type 0 where
    pub is : rk4 (apply_of row m) h t (list_of y) ≡ Some (list_of z)
    pub count : n ≡ fallen_among row m (asked_in (apply_of row m) h t (list_of y))
    pub few : n ≤ 8

  abbrev pub StepsTwo : Float → Float → Pair → Option Rated → Type 0
  StepsTwo h t y (Some r) = Step h t y r.pair r.fallen
  StepsTwo h t y None = rk4 (apply_of row m) h t (list_of y) ≡ None
