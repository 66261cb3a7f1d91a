-- How many lookups of a measure fell off the samples: RK4 asks for rates at four values a step, and each time the measure looks up a place and
-- a direction. Definitions only.
use Rattle.std.specs.Prelude.{ℕ, zero, suc, ◌+◌, cond, ◌≡◌, List, [], ◌∷◌, ◌++◌, get_or, Float, Option, Some, None}
use Rattle.std.specs.Float.{nan, binary64}
use Rattle.std.specs.Float.Ieee.{add}
use Rattle.float.specs.Numbers.{nought}
use Rattle.geometry.specs.declared.Quad.{Quad}
use Rattle.arclen.specs.Rk4.{Rates, half_of, moved, rk4}
use Rattle.arclen.specs.Arclen.{tenth}
use Rattle.lookup.specs.Lookup.{fell}
use Rattle.measure.specs.Measure.{along_samples, apply_of, walked_by, measure_functor_of}
use Rattle.measure.specs.declared.MeasureFunctor.{MeasureFunctor}
use Rattle.measure.specs.declared.Measure.{Measure}
use Rattle.measure.specs.declared.Counted.{Counted}

-- ---- the values at which rates are asked for, as `rk4` and `walk` ask: a refused rate ends it

abbrev pub asking : Option (List Float) → (List Float → List (List Float)) → List (List Float)
asking (Some k) f = f k
asking None f = []

unfoldable pub asked_in : Rates → Float → Float → List Float → List (List Float)
asked_in f h t y =
    y ∷ asking (f t y) (λ k1.
    moved (half_of h) y k1 ∷ asking (f (add binary64 t (half_of h)) (moved (half_of h) y k1)) (λ k2.
    moved (half_of h) y k2 ∷ asking (f (add binary64 t (half_of h)) (moved (half_of h) y k2)) (λ k3.
    moved h y k3 ∷ [])))

-- in n steps
unfoldable pub asked_all : Rates → Float → ℕ → Float → List Float → List (List Float)
asked_all f h zero t y = []
asked_all f h (suc n) t y = asked_in f h t y ++ asking (rk4 f h t y) (asked_all f h n (add binary64 t h))

-- ---- those that fell

-- where the length along the quad is y: the place one, the direction one
abbrev pub fallen_at : List (List Float) → MeasureFunctor → Float → ℕ
fallen_at row m y = cond (fell row (along_samples m y)) 2 0

-- of many, whose first value is that length
unfoldable pub fallen_among : List (List Float) → MeasureFunctor → List (List Float) → ℕ
fallen_among row m [] = 0
fallen_among row m (y ∷ ys) = fallen_at row m (get_or y 0 nan) + fallen_among row m ys

-- a refused measure has none
abbrev pub unless_last : Option Measure → ℕ → ℕ
unless_last (Some m) n = n
unless_last None n = 0

unfoldable pub fallen_by : List (List Float) → MeasureFunctor → ℕ
fallen_by row m = unless_last (walked_by row m) (fallen_among row m (asked_all (apply_of row m) tenth 10 nought (nought ∷ nought ∷ [])))

unfoldable pub fallen_of : List (List Float) → Float → Float → Quad → ℕ
fallen_of row s0 s1 q = fallen_by row (measure_functor_of s0 s1 q)

-- ---- what the functions give

-- what is told of the measure x and the number n
abbrev pub Counts : Option Measure → ℕ → Option Counted → Type 0
Counts x n (Some c) = (x ≡ Some c.measure) × (c.fallen ≡ n)
Counts x n None = x ≡ None
