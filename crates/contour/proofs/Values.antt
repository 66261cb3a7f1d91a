-- Worked values of the definitions, by computation. Assumes nothing.
use mathlib.Core.Bool.{true, false}
use mathlib.Core.List.{List, [], ◌∷◌, map}
use mathlib.Core.Path.{◌≡◌, refl}
use lib.IntN.{ℤ, pos, negsuc}
use lib.Ieee as Ieee
use Rattle.outline.specs.Segments.{count_of, end_of, place_after, seg_from}
use Rattle.contour.specs.Points.{points_to, unchanged_points}
use Rattle.contour.specs.Implied.{cut_of, middle_of, is_implied, implied_at, look, drop_from, drop_implied, finished}

abbrev on : ℤ → ℤ → List ℤ
on x y = x ∷ y ∷ pos 1 ∷ []

abbrev off : ℤ → ℤ → List ℤ
off x y = x ∷ y ∷ pos 0 ∷ []

-- sums at the ends of 16 bits
cuts : map cut_of (pos 32767 ∷ pos 32768 ∷ pos 65534 ∷ negsuc 32767 ∷ negsuc 32768 ∷ negsuc 65535 ∷ []) ≡ pos 32767 ∷ negsuc 32767 ∷ negsuc 1 ∷ negsuc 32767 ∷ pos 32767 ∷ pos 0 ∷ []
unfolding cut_of
cuts = refl

-- 3 and -3 are halved toward zero, to 1 and -1
halves : middle_of (pos 1) (pos 2) ∷ middle_of (negsuc 0) (negsuc 1) ∷ [] ≡ pos 1 ∷ negsuc 0 ∷ []
unfolding cut_of
halves = refl

-- (5, 5) on, off, on: unchanged, so on, on, off, on. The start is written twice.
doubled : finished false (unchanged_points (pos 5 ∷ pos 5 ∷ pos 5 ∷ []) (pos 5 ∷ pos 5 ∷ pos 5 ∷ []) (1 ∷ 0 ∷ 1 ∷ []))
    ≡ on (pos 5) (pos 5) ∷ on (pos 5) (pos 5) ∷ off (pos 5) (pos 5) ∷ on (pos 5) (pos 5) ∷ []
unfolding points_to count_of place_after end_of seg_from drop_from look implied_at is_implied cut_of Ieee.of_int Ieee.round Ieee.size Ieee.to_signed
doubled = refl

-- neighbours going round: at place 0 and at the last place
first_place_lem : drop_implied false (on (pos 1) (pos 0) ∷ off (pos 2) (pos 0) ∷ off (pos 0) (pos 0) ∷ []) ≡ off (pos 2) (pos 0) ∷ off (pos 0) (pos 0) ∷ []
unfolding drop_from look implied_at is_implied cut_of
first_place_lem = refl

last_place : drop_implied false (off (pos 0) (pos 0) ∷ on (pos 9) (pos 9) ∷ off (pos 2) (pos 0) ∷ on (pos 1) (pos 0) ∷ [])
    ≡ off (pos 0) (pos 0) ∷ on (pos 9) (pos 9) ∷ off (pos 2) (pos 0) ∷ []
unfolding drop_from look implied_at is_implied cut_of
last_place = refl

-- in closed mode the point at place 0 stays, though it is the midpoint of its neighbours; others go
stays : finished true (on (pos 10) (negsuc 7) ∷ off (pos 34) (negsuc 1) ∷ on (pos 44) (pos 32) ∷ on (negsuc 9) (pos 37) ∷ off (negsuc 13) (negsuc 13) ∷ [])
    ≡ on (pos 10) (negsuc 7) ∷ off (pos 34) (negsuc 1) ∷ on (pos 44) (pos 32) ∷ on (negsuc 9) (pos 37) ∷ off (negsuc 13) (negsuc 13) ∷ []
unfolding drop_from look implied_at is_implied
stays = refl

other_goes : finished true (on (pos 0) (pos 0) ∷ off (pos 10) (pos 10) ∷ on (pos 0) (pos 0) ∷ off (negsuc 9) (negsuc 9) ∷ [])
    ≡ on (pos 0) (pos 0) ∷ off (pos 10) (pos 10) ∷ off (negsuc 9) (negsuc 9) ∷ []
unfolding drop_from look implied_at is_implied
other_goes = refl

both_stay : finished true (on (pos 5) (pos 5) ∷ off (pos 5) (pos 5) ∷ []) ≡ on (pos 5) (pos 5) ∷ off (pos 5) (pos 5) ∷ []
unfolding drop_from look implied_at is_implied
both_stay = refl
