-- A measure that stops as soon as it cannot win, for the contracts: the term of a stage, a step, and what is told. Definitions only.
use Rattle.std.specs.Prelude.{ℕ, zero, suc, ◌+◌, ◌*◌, true, false, ◌≡◌, List, [], get_or, Float, Option, Some, None}
use Rattle.std.specs.Float.{nan, binary64}
use Rattle.std.specs.Float.Ieee.{add, lt}
use Rattle.float.specs.Numbers.{nought}
use Rattle.geometry.specs.declared.Quad.{Quad}
use Rattle.arclen.specs.Rk4.{grown_by}
use Rattle.arclen.specs.Arclen.{tenth, arclen_functor_of}
use Rattle.quickarclen.specs.Stages.{Written}
use Rattle.quicklookup.specs.Spots.{spot_at}
use Rattle.measure.specs.Measure.{along_samples, measure_functor_of}
use Rattle.quickmeasure.specs.Terms.{measured, error_at, Seen}
use Rattle.quickmeasure.specs.Counting.{fallen_below}
use Rattle.quickmeasure.specs.declared.Node.{Node}
use Rattle.measure.specs.declared.MeasureFunctor.{MeasureFunctor}
use Rattle.quickmeasure.specs.declared.Judged.{Judged}
use Rattle.quickmeasure.specs.declared.Judged.TheVariants as Judging
use Rattle.measure.specs.declared.Measure.{Measure}

-- the term of the stage a at the node n
abbrev pub rate_by : List (List Float) → MeasureFunctor → Node → List Float → Option Measure
rate_by row m n a = error_at (get_or a 1 nan) n.d n.p (spot_at row (along_samples m (get_or a 2 nan)))

-- the node of a step's stage k: that of its start, of its middle twice, of its end
unfoldable pub node_in : Node → Node → Node → ℕ → Node
node_in n middle end zero = n
node_in n middle end (suc zero) = middle
node_in n middle end (suc (suc zero)) = middle
node_in n middle end (suc (suc (suc k))) = end

-- the error after a step, from its four terms
unfoldable pub summed : Float → Float → Option Measure → Option Measure → Option Measure → Option Measure → Option Measure
summed h e (Some a) (Some b) (Some c) (Some d) = measured (grown_by h e a.error b.error c.error d.error)
summed h e (Some a) (Some b) (Some c) None = None
summed h e (Some a) (Some b) None u = None
summed h e (Some a) None w u = None
summed h e None r w u = None

-- the step i, with the nodes of its start, middle and end
abbrev pub step_by : List (List Float) → MeasureFunctor → List (List Float) → ℕ → Float → Node → Node → Node → Option Measure
step_by row m stages i e n middle end =
    summed tenth e (rate_by row m n (get_or stages (4 * i) [])) (rate_by row m middle (get_or stages (4 * i + 1) []))
    (rate_by row m middle (get_or stages (4 * i + 2) [])) (rate_by row m end (get_or stages (4 * i + 3) []))

-- every sample asked for is there, and no lookup falls
pub record Shown (row : List (List Float)) (m : MeasureFunctor) (stages : List (List Float)) : Type 0 where
  pub seen : List (List Float)
  pub all : Seen row m stages seen 40
  pub none : fallen_below row m stages 40 ≡ 0

-- so it is with the measure of q between the lengths s0 and s1
pub record Shows (row : List (List Float)) (s0 s1 : Float) (q : Quad) : Type 0 where
  pub stages : List (List Float)
  pub written : Written (arclen_functor_of q) stages
  pub shown : Shown row (measure_functor_of s0 s1 q) stages

-- all is shown, and with the error e the score is above zero and not less than the limit
pub record Sealed (row : List (List Float)) (m : MeasureFunctor) (stages : List (List Float)) (base e limit : Float) : Type 0 where
  pub shown : Shown row m stages
  pub above : lt nought base ≡ true
  pub most : lt (add binary64 base e) limit ≡ false

-- there is a measure, a score with it is not less than the limit, and of the n lookups that fell there is none
pub record Beyond (x : Option Measure) (n : ℕ) (base limit : Float) : Type 0 where
  pub error : Float
  pub is : x ≡ Some (record { error = error })
  pub most : lt (add binary64 base error) limit ≡ false
  pub none : n ≡ 0

-- what is told of the measure x and the number n
abbrev pub Judges : Option Measure → ℕ → Float → Float → Option Judged → Type 0
Judges x n base limit (Some (Judging.Measured c)) = (x ≡ Some c.measure) × (c.fallen ≡ n)
Judges x n base limit (Some Judging.Over) = Beyond x n base limit
Judges x n base limit None = x ≡ None
