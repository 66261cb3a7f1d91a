-- How the code goes along a quad: a root that is known is not taken again, and the 40 stages of ten steps, four to a step, are written down.
-- Definitions only, for the contracts.
use Rattle.std.specs.Prelude.{ℕ, zero, suc, ◌+◌, ◌*◌, ◌/◌, ◌%◌, ◌<◌, ◌≡◌, List, [], ◌∷◌, length, set, get_or, Float}
use Rattle.std.specs.Float.{nan, binary64}
use Rattle.std.specs.Float.Ieee.{add, mul}
use Rattle.float.specs.Numbers.{nought}
use Rattle.float.specs.Float.{root_of}
use Rattle.geometry.specs.Geometry.{square_norm_of}
use Rattle.arclen.specs.Rk4.{half_of, grown_by}
use Rattle.arclen.specs.Arclen.{tenth, deriv_of, speed_of, rk4_one}
use Rattle.arclen.specs.declared.ArclenFunctor.{ArclenFunctor}

-- the time after i steps of h, and the length after i steps of a tenth
unfoldable pub time_at : Float → ℕ → Float
time_at h zero = nought
time_at h (suc i) = add binary64 (time_at h i) h

unfoldable pub length_at : ArclenFunctor → ℕ → Float
length_at f zero = nought
length_at f (suc i) = rk4_one f tenth (time_at tenth i) (length_at f i)

-- the time after i steps of h from t on
unfoldable pub time_from : Float → Float → ℕ → Float
time_from h t zero = t
time_from h t (suc i) = time_from h (add binary64 t h) i

-- the time at the place k of 21, for ten steps of h from t on: where the step k / 2 starts, or in its middle
abbrev pub within : Float → Float → ℕ → Float
within h t zero = t
within h t (suc j) = add binary64 t (half_of h)

unfoldable pub place_at : Float → Float → ℕ → Float
place_at h t k = within h (time_from h t (k / 2)) (k % 2)

-- below k of 20 places the squares of the speeds are written that come after the first
pub record Squares (f : ArclenFunctor) (h t : Float) (w : List Float) (k : ℕ) : Type 0 where
  pub long : length w ≡ 20
  pub is : (j : ℕ) → j < k → get_or w j nan ≡ square_norm_of (deriv_of f (place_at h t (j + 1)))

-- from the step i of ten on, which starts at t, the speeds are written
pub record Ready (f : ArclenFunctor) (h t : Float) (v : List Float) (i : ℕ) : Type 0 where
  pub is : (k : ℕ) → 2 * i + k < 21 → get_or v (2 * i + k) nan ≡ speed_of f (place_at h t k)

-- after the first place, the roots of the first k numbers of w are written
pub record Roots (w : List Float) (first : Float) (v : List Float) (k : ℕ) : Type 0 where
  pub long : length v ≡ 21
  pub start : get_or v 0 nan ≡ first
  pub is : (j : ℕ) → j < k → get_or v (j + 1) nan ≡ root_of (get_or w j nan)

-- all 21 speeds are the one at t
pub record SameSpeeds (f : ArclenFunctor) (t : Float) (v : List Float) : Type 0 where
  pub long : length v ≡ 21
  pub is : (j : ℕ) → j < 21 → get_or v j nan ≡ speed_of f t

-- with the speeds v, k steps of h lead from the length y to those that are written
pub record Lengths (h y : Float) (v lengths : List Float) (k : ℕ) : Type 0 where
  pub long : length lengths ≡ 11
  pub start : get_or lengths 0 nan ≡ y
  pub next : (i : ℕ) → i < k →
      get_or lengths (i + 1) nan ≡ grown_by h (get_or lengths i nan) (get_or v (2 * i) nan) (get_or v (2 * i + 1) nan) (get_or v (2 * i + 1) nan) (get_or v (2 * i + 2) nan)

-- a stage: its time, the speed there, and the length that RK4 takes to be reached there
abbrev pub stage : ArclenFunctor → Float → Float → List Float
stage f t y = t ∷ speed_of f t ∷ y ∷ []

-- y + a * v, with the speed v at t
abbrev pub ahead : ArclenFunctor → Float → Float → Float → Float
ahead f y a t = add binary64 y (mul binary64 a (speed_of f t))

-- the stage j of a step of h from the length y at t
unfoldable pub stage_of : ArclenFunctor → Float → Float → Float → ℕ → List Float
stage_of f h t y zero = stage f t y
stage_of f h t y (suc zero) = stage f (add binary64 t (half_of h)) (ahead f y (half_of h) t)
stage_of f h t y (suc (suc zero)) = stage f (add binary64 t (half_of h)) (ahead f y (half_of h) (add binary64 t (half_of h)))
stage_of f h t y (suc (suc (suc j))) = stage f (add binary64 t h) (ahead f y h (add binary64 t (half_of h)))

-- the stage k of ten steps
unfoldable pub stage_at : ArclenFunctor → ℕ → List Float
stage_at f k = stage_of f tenth (time_at tenth (k / 4)) (length_at f (k / 4)) (k % 4)

-- the row with the four stages of the step i, from the length y at t on, with the speeds a, b and d
unfoldable pub with_step : List (List Float) → ℕ → Float → Float → Float → Float → Float → List (List Float)
with_step stages i t y a b d =
    set
    (set
    (set (set stages (4 * i) (t ∷ a ∷ y ∷ [])) (4 * i + 1)
    (add binary64 t (half_of tenth) ∷ b ∷ add binary64 y (mul binary64 (half_of tenth) a) ∷ []))
    (4 * i + 2)
    (add binary64 t (half_of tenth) ∷ b ∷ add binary64 y (mul binary64 (half_of tenth) b) ∷ []))
    (4 * i + 3)
    (add binary64 t tenth ∷ d ∷ add binary64 y (mul binary64 tenth b) ∷ [])

-- all stages are written
pub record Written (f : ArclenFunctor) (stages : List (List Float)) : Type 0 where
  pub is : (k : ℕ) → k < 40 → get_or stages k [] ≡ stage_at f k

-- and y is the length
pub record Walked (f : ArclenFunctor) (stages : List (List Float)) (y : Float) : Type 0 where
  pub written : Written f stages
  pub whole : y ≡ length_at f 10
