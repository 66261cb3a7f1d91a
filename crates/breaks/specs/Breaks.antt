-- Module 7, the Rust's `find_breaks`: places along a run, each brought to the grid, of which neighbours that are close are one. Definitions only.
use Rattle.std.specs.Prelude.{ℕ, zero, suc, ◌+◌, ◌-◌, Bool, true, false, not, ◌||◌, List, [], ◌∷◌, ◌++◌, leb, eqb, pos, length, take, get_or, set, Float, Option, Some, None, Result, Ok, Err}
use Rattle.std.specs.Float.{nan, binary64}
use Rattle.std.specs.Float.Ieee.{mul, div, lt, of_int, to_unsigned}
use Rattle.float.specs.Numbers.{nought, half, one, two, ten}
use Rattle.float.specs.Float.{round_of}
use Rattle.geometry.specs.Geometry.{is_close, distance_of}
use Rattle.geometry.specs.declared.Point.{Point}
use Rattle.geometry.specs.declared.Break.{Break}
use Rattle.refusals.specs.declared.refusal.Refusal.TheVariants.{TooManyBreaks, PastLastSample}
use Rattle.refusals.specs.declared.refusal.Refusal.{Refusal}
use Rattle.lookup.specs.Lookup.{xy_at, dir_at}
use Rattle.breaks.specs.declared.Grid.{Grid}
use Rattle.breaks.specs.declared.Placed.{Placed}
use Rattle.breaks.specs.declared.Progress.{Progress}
use Rattle.breaks.specs.declared.Stopped as S
use Rattle.breaks.specs.declared.Stopped.TheVariants as Stopped

-- ---- the grid

abbrev pub on_grid : Grid → Float → Float
on_grid g x = mul binary64 g.step (round_of (mul binary64 g.per x))

abbrev pub grid_point : Grid → Point → Point
grid_point g p = record { x = on_grid g p.x; y = on_grid g p.y }

-- 0.5 * round(2 * x)
abbrev pub half_grid : Grid
half_grid = record { per = two; step = half }

-- round(x), as the Rust does where `HALF_STEP` is false
abbrev pub whole_grid : Grid
whole_grid = record { per = one; step = one }

-- ---- a break in a row: its length, its place and its direction

abbrev pub Row : Type 0
Row = List (List Float)

abbrev pub packed_of : Break → List Float
packed_of b = b.s ∷ b.xy.x ∷ b.xy.y ∷ b.dir.x ∷ b.dir.y ∷ nought ∷ []

abbrev pub unpacked_of : List Float → Break
unpacked_of r = record {
  s = get_or r 0 nan;
  xy = record { x = get_or r 1 nan; y = get_or r 2 nan };
  dir = record { x = get_or r 3 nan; y = get_or r 4 nan };
}

abbrev pub break_at : Row → ℕ → Break
break_at row i = unpacked_of (get_or row i [])

-- ---- the places

-- n = round(10 * length), as the Rust's i32: places 0 to n
abbrev pub places_of : Float → ℕ
places_of len = to_unsigned 31 (round_of (mul binary64 ten len))

-- the length at place i of n: length * i / n, which is a NaN where n is 0
abbrev pub length_at : Float → ℕ → ℕ → Float
length_at len n i = div binary64 (mul binary64 len (of_int binary64 (pos i))) (of_int binary64 (pos n))

-- a place: the break it would be, and its distance to its own unrounded point. A length past the samples leaves the contour unchanged;
-- at the last stored place a sample is refused, 8.
abbrev pub placed : Grid → Float → Option Point → Option Point → Result Placed S.Stopped
placed g s (Some o) (Some d) = Ok (record { place = record { s = s; xy = grid_point g o; dir = d }; dist = distance_of (grid_point g o) o })
placed g s (Some o) None = Err Stopped.Missing
placed g s None d = Err Stopped.Missing

abbrev pub unless_past : Bool → Result Placed S.Stopped → Result Placed S.Stopped
unless_past true p = Err Stopped.Past
unless_past false p = p

unfoldable pub place_at : List (List Float) → Grid → Float → Result Placed S.Stopped
place_at samples g s = unless_past (leb (length samples) (to_unsigned 64 s)) (placed g s (xy_at samples s) (dir_at samples s))

-- ---- the breaks so far, and the distance of the place that first opened the last one; or why there are none

pub data Finding : Type 0 where
  so : Row → Float → Finding
  stopped : S.Stopped → Finding

-- a new break, where there is room
abbrev pub pushed_if : Bool → Row → Break → Float → Finding
pushed_if true row b dist = stopped Stopped.Full
pushed_if false row b dist = so (row ++ (packed_of b ∷ [])) dist

unfoldable pub opened : ℕ → Row → Break → Float → Finding
opened room row b dist = pushed_if (leb room (length row)) row b dist

-- a close place replaces the last break only if its distance is less; the distance compared with stays
abbrev pub replaced_if : Bool → Row → Float → Break → Finding
replaced_if true row d b = so (set row (length row - 1) (packed_of b)) d
replaced_if false row d b = so row d

abbrev pub joined_if : Bool → ℕ → Row → Float → Break → Float → Finding
joined_if true room row d b dist = opened room row b dist
joined_if false room row d b dist = replaced_if (lt dist d) row d b

-- the first place opens a break, and so does one that is not close to the last break
unfoldable pub opens : Row → Point → Bool
opens row p = eqb (length row) 0 || not (is_close p (break_at row (length row - 1)).xy)

unfoldable pub join_of : ℕ → Row → Float → Break → Float → Finding
join_of room row d b dist = joined_if (opens row b.xy) room row d b dist

abbrev pub stepped : ℕ → Finding → Result Placed S.Stopped → Finding
stepped room (so row d) (Ok p) = join_of room row d p.place p.dist
stepped room (so row d) (Err e) = stopped e
stepped room (stopped e) p = stopped e

-- k places from place i on
unfoldable pub walk : ℕ → ℕ → (ℕ → Result Placed S.Stopped) → ℕ → Finding → Finding
walk zero room place i f = f
walk (suc k) room place i f = walk k room place (i + 1) (stepped room f (place i))

-- ---- the whole

-- the breaks of a run; a refusal; or the contour is unchanged
pub data RunBreaks : Type 0 where
  breaks : Row → RunBreaks
  refused : Refusal → RunBreaks
  unchanged : RunBreaks

-- what a run without breaks comes to
abbrev pub stopped_as : S.Stopped → RunBreaks
stopped_as Stopped.Full = refused TooManyBreaks
stopped_as Stopped.Missing = refused PastLastSample
stopped_as Stopped.Past = unchanged

abbrev pub run_breaks_of : Finding → RunBreaks
run_breaks_of (so row d) = breaks row
run_breaks_of (stopped e) = stopped_as e

abbrev pub place_of : List (List Float) → Grid → Float → ℕ → Result Placed S.Stopped
place_of samples g len i = place_at samples g (length_at len (places_of len) i)

unfoldable pub breaks_of : ℕ → List (List Float) → Grid → Float → RunBreaks
breaks_of room samples g len = run_breaks_of (walk (suc (places_of len)) room (place_of samples g len) 0 (so [] nought))

-- ---- what the functions leave in a row

-- where distances are held as other numbers: the place, and the breaks so far
abbrev pub placed_by : (Float → Float) → Result Placed S.Stopped → Result Placed S.Stopped
placed_by distance (Ok p) = Ok (record { place = p.place; dist = distance p.dist })
placed_by distance (Err e) = Err e

abbrev pub joined_by : (Float → Float) → Row → Result Progress S.Stopped → Finding
joined_by distance row (Ok p) = so (take p.count row) (distance p.opened)
joined_by distance row (Err e) = stopped e

abbrev pub count_joined : Result Progress S.Stopped → ℕ
count_joined (Ok p) = p.count
count_joined (Err e) = 0

abbrev pub breaks_in : Row → Result ℕ S.Stopped → RunBreaks
breaks_in row (Ok n) = breaks (take n row)
breaks_in row (Err e) = stopped_as e

abbrev pub count_found : Result ℕ S.Stopped → ℕ
count_found (Ok n) = n
count_found (Err e) = 0
