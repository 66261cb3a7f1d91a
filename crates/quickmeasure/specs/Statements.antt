-- What a reader should know of a measure, as types; the theorems `still` of proofs/Still and `spoils` of proofs/Spoilt are of them. Statements only.
use Rattle.std.specs.Prelude.{Bool, true, ◌||◌, List, ◌≡◌, T, Float, Some}
use Rattle.std.specs.Float.{nan, binary64}
use Rattle.std.specs.Float.Ieee.{fits, is_nan}
use Rattle.geometry.specs.Geometry.{is_whole, line_quad}
use Rattle.geometry.specs.declared.Point.{Point}
use Rattle.geometry.specs.declared.Quad.{Quad}
use Rattle.measure.specs.Measure.{measure_of}
use Rattle.measure.specs.declared.Measure.{Measure}

-- the straight piece from a point on whole units to itself measures NaN, whatever the samples and the lengths, where it is not refused
abbrev pub StayingMeasuresNan : Type 0
StayingMeasuresNan =
    (row : List (List Float)) (s0 s1 : Float) (p : Point) → T (fits binary64 p.x) → T (fits binary64 p.y) → is_whole p ≡ true →
    (m : Measure) → measure_of row s0 s1 (line_quad p p) ≡ Some m → m.error ≡ nan

-- a coordinate is a NaN
abbrev pub has_nan : Point → Bool
has_nan p = is_nan p.x || is_nan p.y

-- so does a piece whose control has a NaN
abbrev pub NanControlMeasuresNan : Type 0
NanControlMeasuresNan =
    (row : List (List Float)) (s0 s1 : Float) (q : Quad) → has_nan q.p1 ≡ true → (m : Measure) → measure_of row s0 s1 q ≡ Some m → m.error ≡ nan
