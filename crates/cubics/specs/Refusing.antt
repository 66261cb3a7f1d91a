-- What a contour of cubics is refused for before it is worked: 1, 2, 4 as for any contour, and 5 of pairs. Definitions only.
use Rattle.std.specs.Prelude.{ℕ, ◌+◌, Bool, true, false, not, ◌&&◌, ◌||◌, List, [], ◌∷◌, eqb, ℤ, length, Result, Ok}
use Rattle.refusals.specs.Refusals.{is_on, rows_differ, no_point, first_off, refuse}
use Rattle.refusals.specs.declared.refusal.Refusal.TheVariants.{UnevenRows, NoPoint, StartsOffCurve, OffCurveNeighbours}
use Rattle.refusals.specs.declared.refusal.Refusal.{Refusal}

-- a stretch of n off-curve points that is not two long; none is no stretch
abbrev pub unpaired : ℕ → Bool
unpaired n = not (eqb n 0) && not (eqb n 2)

-- how many off-curve points stand next to each other up to a point, where there were n before it
abbrev pub off_after : Bool → ℕ → ℕ
off_after true n = 0
off_after false n = n + 1

-- a stretch ends before an on-curve point, and at the end of the row
unfoldable pub unpaired_from : List ℕ → ℕ → Bool
unpaired_from [] n = unpaired n
unpaired_from (f ∷ fs) n = (is_on f && unpaired n) || unpaired_from fs (off_after (is_on f) n)

-- 5: a stretch of off-curve points that is not two long
abbrev pub off_pairs : List ℕ → Bool
off_pairs fs = unpaired_from fs 0

-- 1, 2, 4 and 5 are tested in that order; 3 counts the points after replacement, and comes after them
unfoldable pub judged_cubics : List ℤ → List ℤ → List ℕ → Result Unit Refusal
judged_cubics xs ys fs =
    let n = length fs in
    refuse UnevenRows (rows_differ (length xs) (length ys) n)
    (refuse NoPoint (no_point n)
    (refuse StartsOffCurve (first_off fs) (refuse OffCurveNeighbours (off_pairs fs) (Ok tt))))
