-- A measure that is given up at its first stage, for the contracts: there the time and the length are 0. Definitions only.
use Rattle.std.specs.Prelude.{true, false, ◌≡◌, List, T, Float, Some}
use Rattle.std.specs.Float.{binary64}
use Rattle.std.specs.Float.Ieee.{fits, add, mul, div, lt, of_bits}
use Rattle.float.specs.Numbers.{nought, six}
use Rattle.geometry.specs.Geometry.{square_norm_of}
use Rattle.geometry.specs.declared.Point.{Point}
use Rattle.geometry.specs.declared.Quad.{Quad}
use Rattle.arclen.specs.Arclen.{tenth}
use Rattle.quicklookup.specs.Spots.{spot_at}
use Rattle.quicklookup.specs.declared.Spot.{Spot}
use Rattle.measure.specs.Measure.{angle_factor, angleerr_of, measure_of}
use Rattle.measure.specs.Fallen.{fallen_of}
use Rattle.quickmeasure.specs.Early.{Shows, Beyond}
use Rattle.quickmeasure.specs.Ahead.{least_gap, most_gap}

-- 1 and 2 ^ -10
abbrev pub one_and_more : Float
one_and_more = of_bits binary64 0x3ff0_0400_0000_0000

-- the angle's part of what the first stage adds to the error, with the speed w, the derivative d and the direction dir
abbrev pub share_of : Float → Point → Point → Float
share_of w d dir = mul binary64 (div binary64 tenth six) (mul binary64 angle_factor (angleerr_of w d dir))

-- with that part the score is above zero and not less than the limit, and w is no less than the norm of d, by their squares
pub record Off (row : List (List Float)) (s0 : Float) (d : Point) (w base limit : Float) : Type 0 where
  pub from : T (fits binary64 s0)
  pub whole : T (fits binary64 w)
  pub spot : Spot
  pub is : spot_at row s0 ≡ Some spot
  pub most : lt (add binary64 base (share_of w d spot.dir)) limit ≡ false
  pub above : lt nought base ≡ true
  pub some : lt least_gap w ≡ true
  pub few : lt w most_gap ≡ true
  pub wide : lt (mul binary64 one_and_more (square_norm_of d)) (mul binary64 w w) ≡ true

-- where every sample asked for is there, a score with the error is not less than the limit, whatever s1
pub record Turned (row : List (List Float)) (s0 : Float) (q : Quad) (base limit : Float) : Type 0 where
  pub over : (s1 : Float) → Shows row s0 s1 q → Beyond (measure_of row s0 s1 q) (fallen_of row s0 s1 q) base limit
