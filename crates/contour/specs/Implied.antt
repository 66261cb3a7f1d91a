-- Implied points, the Rust's `remove_implied_oncurves` and OpenType's, and what is done to the written points at the end. Definitions only.
use Rattle.std.specs.Prelude.{ℕ, zero, suc, ◌+◌, ◌-◌, ◌%◌, ◌^◌, Bool, true, false, not, ◌&&◌, List, [], ◌++◌, reverse, eqb, ltb, ℤ, pos, negsuc, ◌+ℤ◌, length, get_or, take, drop}
use Rattle.std.specs.Int.Signed.{quot_z}
use Rattle.outline.specs.Segments.{previous}
use Rattle.contour.specs.Points.{Points}

-- ---- 16 bits

-- z modulo 2 ^ 16
abbrev pub mod16 : ℤ → ℕ
mod16 (pos n) = n % 2 ^ 16
mod16 (negsuc n) = 2 ^ 16 - 1 - n % 2 ^ 16

-- the 16-bit number that is m modulo 2 ^ 16: m itself, or m - 2 ^ 16
abbrev pub signed_if : Bool → ℕ → ℤ
signed_if true m = pos m
signed_if false m = negsuc (2 ^ 16 - 1 - m)

-- z cut to 16 bits
unfoldable pub cut_of : ℤ → ℤ
cut_of z = signed_if (ltb (mod16 z) (2 ^ 15)) (mod16 z)

-- the cut sum, halved toward zero
abbrev pub middle_of : ℤ → ℤ → ℤ
middle_of a b = quot_z (cut_of (a +ℤ b)) (pos 2)

-- ---- the test

abbrev pub same : ℤ → ℤ → Bool
same (pos a) (pos b) = eqb a b
same (pos a) (negsuc b) = false
same (negsuc a) (pos b) = false
same (negsuc a) (negsuc b) = eqb a b

abbrev pub number : List ℤ → ℕ → ℤ
number p k = get_or p k (pos 0)

abbrev pub off_curve : List ℤ → Bool
off_curve p = same (number p 2) (pos 0)

-- in the crate's mode: this coordinate is the half of its neighbours' cut sum
abbrev pub midway : ℤ → ℤ → ℤ → Bool
midway prev this next = same this (middle_of prev next)

-- by OpenType: twice this coordinate is the full sum of its neighbours'
abbrev pub halfway : ℤ → ℤ → ℤ → Bool
halfway prev this next = same (this +ℤ this) (prev +ℤ next)

-- closed mode is OpenType's
abbrev pub midway_by : Bool → ℤ → ℤ → ℤ → Bool
midway_by true prev this next = halfway prev this next
midway_by false prev this next = midway prev this next

abbrev pub midway_in : Bool → ℕ → List ℤ → List ℤ → List ℤ → Bool
midway_in closed k prev this next = midway_by closed (number prev k) (number this k) (number next k)

-- an on-curve point between two off-curve ones, midway in each coordinate
unfoldable pub is_implied : Bool → List ℤ → List ℤ → List ℤ → Bool
is_implied closed prev this next =
    not (off_curve this) && (off_curve prev && (off_curve next && (midway_in closed 0 prev this next && midway_in closed 1 prev this next)))

-- ---- dropping, by any such test

-- without the point at place i
abbrev pub removed : Points → ℕ → Points
removed ps i = take i ps ++ drop (i + 1) ps

module _ (implied : List ℤ → List ℤ → List ℤ → Bool) where
  -- the test at place i; neighbours going round
  unfoldable pub implied_at : Points → ℕ → Bool
  implied_at ps i = implied (get_or ps (previous (length ps) i) []) (get_or ps i []) (get_or ps ((i + 1) % length ps) [])

  -- with k places left to look at, and the answer at place i: after a removal the same place is looked at again
  unfoldable pub look : ℕ → Bool → Points → ℕ → Points
  look zero b ps i = ps
  look (suc k) true ps i = look k (implied_at (removed ps i) i) (removed ps i) i
  look (suc k) false ps i = look k (implied_at ps (i + 1)) ps (i + 1)

  unfoldable pub drop_from : Points → ℕ → Points
  drop_from ps i = look (length ps - i) (implied_at ps i) ps i

-- ---- by the mode: its test, and where looking begins

-- in closed mode the point at place 0 stays, so implied points are looked for from place 1 on
abbrev pub first_place : Bool → ℕ
first_place true = 1
first_place false = 0

abbrev pub drop_implied : Bool → Points → Points
drop_implied closed ps = drop_from (is_implied closed) ps (first_place closed)

-- ---- the end: in the crate's mode the row is reversed; then implied points are dropped, by the mode

-- in closed mode the order of the input points is kept
abbrev pub ordered_in : Bool → Points → Points
ordered_in true ps = ps
ordered_in false ps = reverse ps

abbrev pub finished : Bool → Points → Points
finished closed ps = drop_implied closed (ordered_in closed ps)
