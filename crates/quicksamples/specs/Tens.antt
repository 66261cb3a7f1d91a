-- The steps over a quad, ten at a time, as the code takes them. Definitions only, for the contracts.
use Rattle.std.specs.Prelude.{ℕ, zero, suc, ◌+◌, ◌<◌, ◌≤◌, false, List, ◌≡◌, length, get_or, Float, Option}
use Rattle.std.specs.Float.{nan, binary64}
use Rattle.std.specs.Float.Ieee.{add, le}
use Rattle.geometry.specs.declared.Quad.{Quad}
use Rattle.arclen.specs.Arclen.{hundredth}
use Rattle.samples.specs.Samples.{Sample, Walked, step_at, step_to, walked_in, swept_in, places_swept, length_swept}
use Rattle.samples.specs.declared.Walk.{Walk}

-- k steps from the time t on, which start at the lengths from place i on
unfoldable pub steps_along : ℕ → ℕ → Quad → Float → List Float → ℕ → Walked → Walked
steps_along zero room q t starts i w = w
steps_along (suc k) room q t starts i w =
    steps_along k room q (add binary64 t hundredth) starts (i + 1) (step_to room (step_at q t (get_or starts i nan)) w)

-- no sample is due at the first k of these lengths
pub record NoneDue (starts : List Float) (ix : Float) (k : ℕ) : Type 0 where
  pub is : (i : ℕ) → i < k → le ix (get_or starts i nan) ≡ false

-- what ten steps from the time t on leave, which start at these lengths: the row, where the walk stands, and the length after them
pub record TenSteps (q : Quad) (t : Float) (starts : List Float) (from : Walk) (before after : List Sample) (r : Option Walk) : Type 0 where
  pub row : steps_along 10 (length before) q t starts 0 (walked_in before from) ≡ swept_in after r
  pub places : places_swept r ≤ length before
  pub len : length_swept (get_or starts 10 nan) r ≡ get_or starts 10 nan
