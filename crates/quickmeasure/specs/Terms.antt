-- The flat form, for the contracts of the functions that are not public: what is seen at each of the 40 stages, the rate of the error there,
-- a term, and the error as the sum of the terms. Definitions only.
use Rattle.std.specs.Prelude.{ℕ, zero, suc, ◌+◌, ◌*◌, ◌<◌, ◌≡◌, Bool, true, false, List, [], get_or, Float, Option, Some, None}
use Rattle.std.specs.Float.{nan}
use Rattle.std.specs.Float.Ieee.{lt}
use Rattle.float.specs.Numbers.{nought}
use Rattle.geometry.specs.Geometry.{point_at_t}
use Rattle.geometry.specs.declared.Point.{Point}
use Rattle.geometry.specs.declared.Quad.{Quad}
use Rattle.arclen.specs.Rk4.{grown_by}
use Rattle.arclen.specs.Arclen.{tenth, deriv_of}
use Rattle.arclen.specs.declared.ArclenFunctor.{ArclenFunctor}
use Rattle.lookup.specs.Lookup.{point_from}
use Rattle.quicklookup.specs.Spots.{spot_at}
use Rattle.quicklookup.specs.declared.Spot.{Spot}
use Rattle.measure.specs.Measure.{error_of, along_samples, walked_by}
use Rattle.quickmeasure.specs.declared.Node.{Node}
use Rattle.measure.specs.declared.MeasureFunctor.{MeasureFunctor}
use Rattle.measure.specs.declared.Measure.{Measure}

abbrev pub measured : Float → Option Measure
measured e = Some (record { error = e })

abbrev pub error_at : Float → Point → Point → Option Spot → Option Measure
error_at v d p (Some c) = measured (error_of v d p c.xy c.dir)
error_at v d p None = None

-- the term of a stage: at the time t, with the speed v and the length y
unfoldable pub term_of : List (List Float) → MeasureFunctor → Float → Float → Float → Option Measure
term_of row m t v y = error_at v (deriv_of m.af t) (point_at_t m.q t) (spot_at row (along_samples m y))

-- where a quad is at the time t, and its derivative there
abbrev pub node_of : ArclenFunctor → Quad → Float → Node
node_of af q t = record { p = point_at_t q t; d = deriv_of af t }

-- what is seen at a stage is written as [x, y, direction x, y]
abbrev pub spot_in : List Float → Spot
spot_in a = record { xy = point_from 0 a; dir = point_from 2 a }

-- the rate of the error at a node with the speed v, where a is seen
abbrev pub rate_at : Node → Float → List Float → Float
rate_at n v a = error_of v n.d n.p (spot_in a).xy (spot_in a).dir

-- the term k, from the stages and what is seen there
abbrev pub term_in : ArclenFunctor → Quad → List (List Float) → List (List Float) → ℕ → Float
term_in af q stages seen k = rate_at (node_of af q (get_or (get_or stages k []) 0 nan)) (get_or (get_or stages k []) 1 nan) (get_or seen k [])

-- the error at the start of the step i, from the terms, four to a step
unfoldable pub sums_of : (ℕ → Float) → ℕ → Float
sums_of g zero = nought
sums_of g (suc i) = grown_by tenth (sums_of g i) (g (4 * i)) (g (4 * i + 1)) (g (4 * i + 2)) (g (4 * i + 3))

-- what is seen at the stages below k is written
pub record Seen (row : List (List Float)) (m : MeasureFunctor) (stages seen : List (List Float)) (k : ℕ) : Type 0 where
  pub is : (j : ℕ) → j < k → spot_at row (along_samples m (get_or (get_or stages j []) 2 nan)) ≡ Some (spot_in (get_or seen j []))

-- all of it is written, or the work is refused
abbrev pub Looks : List (List Float) → MeasureFunctor → List (List Float) → List (List Float) → Bool → Type 0
Looks row m stages seen true = Seen row m stages seen 40
Looks row m stages seen false = None ≡ walked_by row m

-- the stages below k lie before the length `end` along the samples
pub record Before (m : MeasureFunctor) (stages : List (List Float)) (end : Float) (k : ℕ) : Type 0 where
  pub is : (j : ℕ) → j < k → lt (along_samples m (get_or (get_or stages j []) 2 nan)) end ≡ true
