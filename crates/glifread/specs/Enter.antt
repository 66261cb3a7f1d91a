-- Contours as they stand in the file into rows. Definitions only.
use Rattle.std.specs.Prelude.{ℕ, zero, suc, ◌+◌, ◌-◌, ◌/◌, ◌%◌, Bool, true, false, not, List, eqb, ltb, ℤ, pos, get_or, set, replicate}
use Rattle.lines.specs.Line.{negative}
use Rattle.gliftext.specs.Pick.{pick, both, more, sum}
use Rattle.glif.specs.Outline.{nowhere}
use Rattle.glifread.specs.declared.enter.Pen.{Pen}
use Rattle.glifread.specs.declared.enter.Walk.{Walk}

-- a place of the scratch row: x and y, counted from -32768, and 1 for on-curve, 2 more for the first of a contour
abbrev pub no_place : List ℕ
no_place = replicate 3 0

unfoldable pub is_off : ℕ → Bool
is_off mark = eqb (mark % 2) 0

unfoldable pub is_first : ℕ → Bool
is_first mark = ltb 1 mark

-- the middle of two coordinates, halves away from zero: a sum below 65536 is one below zero, and is halved downward
unfoldable pub middle_of : ℕ → ℕ → ℕ
middle_of a b = pick (ltb (sum a b) 65536) (sum a b / 2) (more (sum a b) / 2)

-- the coordinate itself
unfoldable pub signed_of : ℕ → ℤ
signed_of v = pick (ltb 0 (32768 - v)) (negative (32768 - v)) (pick (ltb (v - 32768) 32768) (pos (v - 32768)) (pos 0))

unfoldable pub flag_of : Bool → ℕ
flag_of off = pick off 0 1

-- the number of the last point, where `at` is the next
unfoldable pub end_of : ℕ → ℕ
end_of at = (at - 1) % 65536

-- ---- one point

-- x, y, flags
pub data Rows : Type 0 where
  rows : List ℤ → List ℤ → List ℕ → Rows

unfoldable pub put_at : ℕ → ℕ → ℕ → Bool → Rows → Rows
put_at i x y off (rows xs ys fs) = rows (set xs i (signed_of x)) (set ys i (signed_of y)) (set fs i (flag_of off))

pub data Drawn : Type 0 where
  drawn : Pen → Rows → Drawn

-- where it and the point before it are off-curve, the middle goes between them, on-curve
abbrev pub enter_as : ℕ → ℕ → Bool → Bool → Pen → Rows → Drawn
enter_as x y off between pen r =
    drawn (record { at = more (pick between (more pen.at) pen.at); off = off; x = x; y = y })
    (put_at (pick between (more pen.at) pen.at) x y off
    (put_at (pick between pen.at nowhere) (middle_of pen.x x) (middle_of pen.y y) false r))

unfoldable pub enter_one : List ℕ → Drawn → Drawn
enter_one p (drawn pen r) =
    enter_as (get_or p 0 0) (get_or p 1 0) (is_off (get_or p 2 0)) (both pen.off (is_off (get_or p 2 0))) pen r

-- k points from a place on
unfoldable pub enter_to : List (List ℕ) → ℕ → ℕ → Drawn → Drawn
enter_to ps from zero d = d
enter_to ps from (suc k) d = enter_one (get_or ps (sum from k) no_place) (enter_to ps from k d)

-- ---- one contour

abbrev pub sought : Bool → List ℕ → Bool
sought first p = pick first (is_first (get_or p 2 0)) (not (is_off (get_or p 2 0)))

-- the first of n places that is the first of a contour, or that is on-curve; the place after them where there is none
unfoldable pub seek_from : Bool → List (List ℕ) → ℕ → ℕ → ℕ
seek_from first ps zero i = i
seek_from first ps (suc n) i = pick (sought first (get_or ps i no_place)) i (seek_from first ps n (i + 1))

-- the next place of the rows
pub data Walked : Type 0 where
  walked : ℕ → Rows → Walked

abbrev pub pen_up : Drawn → Walked
pen_up (drawn pen r) = walked pen.at r

abbrev pub pen_down : Walked → Drawn
pen_down (walked at r) = drawn (record { at = at; off = false; x = 0; y = 0 }) r

-- from its first on-curve point to its end, and from its start to that point
abbrev pub enter_round : List (List ℕ) → ℕ → ℕ → ℕ → Walked → Walked
enter_round ps from to on w = pen_up (enter_to ps from (on - from) (enter_to ps on (to - on) (pen_down w)))

unfoldable pub enter_contour : List (List ℕ) → ℕ → ℕ → Walked → Walked
enter_contour ps from to w = enter_round ps from to (seek_from false ps (to - from) from) w

-- ---- all of them

pub data Entering : Type 0 where
  entering : Walk → List ℕ → Rows → Entering

abbrev pub ending : ℕ → ℕ → List ℕ → Walked → Entering
ending k to ends (walked at r) = entering (record { from = to; at = at }) (set ends k (end_of at)) r

-- contour k: to the next place that is the first of a contour, or to the last of n
unfoldable pub enter_next : List (List ℕ) → ℕ → ℕ → Entering → Entering
enter_next ps n k (entering w ends r) =
    let to : ℕ = seek_from true ps (n - more w.from) (more w.from) in
    ending k to ends (enter_contour ps w.from to (walked w.at r))

unfoldable pub enter_up_to : List (List ℕ) → ℕ → ℕ → Entering → Entering
enter_up_to ps n zero e = e
enter_up_to ps n (suc k) e = enter_next ps n k (enter_up_to ps n k e)

-- ends; x, y, flags
pub data Filled : Type 0 where
  filled : List ℕ → Rows → Filled

abbrev pub to_start : Filled → Entering
to_start (filled ends r) = entering (record { from = 0; at = 0 }) ends r

abbrev pub at_end : Entering → Filled
at_end (entering w ends r) = filled ends r

unfoldable pub enter_all : List (List ℕ) → ℕ → ℕ → Filled → Filled
enter_all ps n contours f = at_end (enter_up_to ps n contours (to_start f))
