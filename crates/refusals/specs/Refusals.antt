-- What a contour is refused for before it is worked, in document 01's words: refusals 1 to 5, and their order. Definitions only.
use Rattle.std.specs.Prelude.{ℕ, ◌%◌, Bool, true, false, not, ◌&&◌, ◌||◌, List, [], ◌∷◌, eqb, ltb, ℤ, length, Result, Ok, Err}
use Rattle.refusals.specs.declared.refusal.Refusal.{Refusal}
use Rattle.refusals.specs.declared.refusal.Refusal.TheVariants.{UnevenRows, NoPoint, TooManyPoints, StartsOffCurve, OffCurveNeighbours}

-- bit 0 of a flag means on-curve; other bits are not looked at
abbrev pub is_on : ℕ → Bool
is_on f = eqb (f % 2) 1

abbrev pub both_off : ℕ → ℕ → Bool
both_off a b = not (is_on a) && not (is_on b)

-- 1: the three input rows differ in length (the lengths of x, y and flags)
abbrev pub rows_differ : ℕ → ℕ → ℕ → Bool
rows_differ x y flag = not (eqb x y) || not (eqb x flag)

-- 2: no point
abbrev pub no_point : ℕ → Bool
no_point n = eqb n 0

-- 3: more than 1,024 points
abbrev pub too_many : ℕ → Bool
too_many n = ltb 1024 n

-- 4: the first point is off-curve
abbrev pub first_off : List ℕ → Bool
first_off [] = false
first_off (f ∷ fs) = not (is_on f)

-- 5: two neighbours in the row are both off-curve (the last and the first are no neighbours)
unfoldable pub off_neighbours : List ℕ → Bool
off_neighbours [] = false
off_neighbours (a ∷ []) = false
off_neighbours (a ∷ b ∷ fs) = both_off a b || off_neighbours (b ∷ fs)

-- refused for the reason k if the test holds, else what the later tests say
abbrev pub refuse : Refusal → Bool → Result Unit Refusal → Result Unit Refusal
refuse k true later = Err k
refuse k false later = later

-- 1 to 5 are tested in that order
unfoldable pub judged : List ℤ → List ℤ → List ℕ → Result Unit Refusal
judged xs ys fs =
    let n = length fs in
    refuse UnevenRows (rows_differ (length xs) (length ys) n)
    (refuse NoPoint (no_point n)
    (refuse TooManyPoints (too_many n)
    (refuse StartsOffCurve (first_off fs)
    (refuse OffCurveNeighbours (off_neighbours fs) (Ok tt)))))
