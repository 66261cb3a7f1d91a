-- A place and a direction looked up in a row of samples [x, y, dx, dy], at a length. Definitions only.
use Rattle.std.specs.Prelude.{ℕ, ◌+◌, ◌≤◌, Bool, cond, List, [], ◌≡◌, leb, length, get_or, Float, Option, Some, None}
use Rattle.std.specs.Float.{nan}
use Rattle.std.specs.Float.Ieee.{to_unsigned}
use Rattle.float.specs.Numbers.{nought}
use Rattle.float.specs.Float.{fract_of}
use Rattle.geometry.specs.Geometry.{lerp_of}
use Rattle.geometry.specs.declared.Point.{Point}

-- the numbers k and k + 1 of a sample, which has four
abbrev pub point_from : ℕ → List Float → Point
point_from k s = record { x = get_or s k nan; y = get_or s (k + 1) nan }

-- the numbers k and k + 1, u of the way from the sample p to the sample q
abbrev pub point_between : ℕ → List Float → List Float → Float → Point
point_between k p q u = lerp_of (point_from k p) (point_from k q) u

abbrev pub origin : Point
origin = record { x = nought; y = nought }

-- a lookup falls off at or past the row's length
abbrev pub fell : List (List Float) → Float → Bool
fell row s = leb (length row) (to_unsigned 64 s)

-- one that fell gives (0, 0); at the last stored place the Rust would index past its end, which is None: the refusal 8. A NaN looks at place 0.
unfoldable pub looked_up : ℕ → List (List Float) → Float → Option Point
looked_up k row s =
    let b = to_unsigned 64 s in
    cond (fell row s) (Some origin)
    (cond (leb (length row) (b + 1)) None
    (Some (point_between k (get_or row b []) (get_or row (b + 1) []) (fract_of s))))

abbrev pub xy_at : List (List Float) → Float → Option Point
xy_at row s = looked_up 0 row s

abbrev pub dir_at : List (List Float) → Float → Option Point
dir_at row s = looked_up 2 row s

-- ---- what the functions give

-- of the lookups at the length s, place and direction, n fell
pub record Falls (row : List (List Float)) (s : Float) (n : ℕ) : Type 0 where
  pub is : n ≡ cond (fell row s) 2 0
  pub few : n ≤ 2
