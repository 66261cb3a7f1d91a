-- The lookups that fell, as the code counts them: over the stages below k, each with its length. Definitions only, for the contracts.
use Rattle.std.specs.Prelude.{ℕ, zero, suc, ◌+◌, List, [], get_or, Float}
use Rattle.std.specs.Float.{nan}
use Rattle.measure.specs.Fallen.{fallen_at}
use Rattle.measure.specs.declared.MeasureFunctor.{MeasureFunctor}

unfoldable pub fallen_below : List (List Float) → MeasureFunctor → List (List Float) → ℕ → ℕ
fallen_below row m stages zero = 0
fallen_below row m stages (suc k) = fallen_below row m stages k + fallen_at row m (get_or (get_or stages k []) 2 nan)
