-- What the steps of reading a line give, in the types of the code. Definitions only.
use Rattle.std.specs.Prelude.{ℕ, ◌≤◌, ◌<◌, min, Bool, true, false, List, [], leb, ℤ, pos, length, drop, Option, Some, None}
use Rattle.lines.specs.Line.{provided, split, negative, Point, in_front, points_of}

-- a number, what is more than 2^32 as that
unfoldable pub size_of : Option ℕ → Option ℕ
size_of (Some v) = Some (min v 4294967296)
size_of None = None

-- a size that is in bounds, with its sign
unfoldable pub below_zero : Option ℕ → Option ℤ
below_zero (Some v) = provided (leb v 32768) (Some (negative v))
below_zero None = None

unfoldable pub from_zero : Option ℕ → Option ℤ
from_zero (Some v) = provided (leb v 32767) (Some (pos v))
from_zero None = None

unfoldable pub flag_up_to : ℕ → Option ℕ → Option ℕ
flag_up_to most (Some v) = provided (leb v most) (Some v)
flag_up_to most None = None

-- the words from a place on; past the end of the line there is none
abbrev pub words_if : Bool → List (List ℕ) → List (List ℕ)
words_if true words = words
words_if false words = []

unfoldable pub words_from : List ℕ → ℕ → List (List ℕ)
words_from line at = words_if (leb at (length line)) (split 32 (drop at line))

-- a point that was read, in front of those that are left
unfoldable pub onward : List ℕ → Option (Point × ℕ) → Option (List Point)
onward line (Some (p, next)) = in_front (Some p) (points_of (words_from line next))
onward line None = None

-- the place after a point lies past `at`, and is at most `most`
abbrev pub Inside : ℕ → ℕ → Option (Point × ℕ) → Type 0
Inside at most (Some (p, next)) = (at < next) × (next ≤ most)
Inside at most None = Unit
