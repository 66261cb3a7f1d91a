-- The points of a contour of the rows, and what is asked of these. Definitions only.
use Rattle.std.specs.Prelude.{ℕ, zero, suc, ◌-◌, ◌%◌, Bool, false, List, eqb, ltb, leb, ℤ, pos, length, get_or, Option, Some, None}
use Rattle.std.specs.Option.{option_or}
use Rattle.refusals.specs.declared.refusal.Refusal.{Refusal}
use Rattle.refusals.specs.declared.refusal.Refusal.TheVariants.{UnevenRows, NoPoint}
use Rattle.gliftext.specs.Pick.{pick, both, either, sum}
use Rattle.glifwrite.specs.Puts.{Putting, put_point}

unfoldable pub is_on : List ℕ → ℕ → Bool
is_on flags i = eqb (get_or flags i 0 % 2) 1

-- the place after contour k's last point; 0 where there is no such contour
unfoldable pub end_at : List ℕ → ℕ → ℕ
end_at ends k = pick (ltb k (length ends)) (sum (get_or ends k 0) 1) 0

unfoldable pub start_of : List ℕ → ℕ → ℕ
start_of ends k = pick (eqb k 0) 0 (end_at ends (k - 1))

-- place i of a contour from one place to another; before its first point stands its last
unfoldable pub put_place : List ℤ → List ℤ → List ℕ → ℕ → ℕ → ℕ → Putting → Putting
put_place xs ys flags from to i q =
    put_point (get_or xs i (pos 0)) (get_or ys i (pos 0)) (is_on flags i) (is_on flags (pick (eqb i from) (to - 1) (i - 1))) q

-- its first k points
unfoldable pub put_to : List ℤ → List ℤ → List ℕ → ℕ → ℕ → ℕ → Putting → Putting
put_to xs ys flags from to zero q = q
put_to xs ys flags from to (suc k) q = put_place xs ys flags from to (sum from k) (put_to xs ys flags from to k q)

-- whether one of the first k contours has no point: its end is not above the one before it
unfoldable pub empty_to : List ℕ → ℕ → Bool
empty_to ends zero = false
empty_to ends (suc k) = either (empty_to ends k) (leb (end_at ends k) (start_of ends k))

unfoldable pub some_empty : List ℕ → Bool
some_empty ends = empty_to ends (length ends)

-- the rows belong together: as many x as y and flags, as many as the last end says, and as many ends as contours; rows without any point are left to 2
unfoldable pub even : ℕ → List ℕ → ℕ → ℕ → ℕ → Bool
even contours ends xs ys flags =
    both (both (eqb xs ys) (eqb xs flags))
    (both (either (eqb xs (end_at ends (length ends - 1))) (eqb xs 0)) (eqb (length ends) contours))

-- the file's own refusal; 1; 2
unfoldable pub rows_refused : Option Refusal → ℕ → List ℕ → ℕ → ℕ → ℕ → Option Refusal
rows_refused refusal contours ends xs ys flags =
    option_or refusal
    (pick (even contours ends xs ys flags)
    (pick (either (some_empty ends) (both (eqb xs 0) (ltb 0 (length ends)))) (Some NoPoint) None)
    (Some UnevenRows))
