-- The drops of a cleaning, put back last drop first. A drop of a list is its number in the upload and why. Each drop before it was of a lower
-- number, so its place in the row as it was then is its number less the drops before it; and a drop for first was the last of the row then.
-- For before and both the point before it is copied, for first place 0. Definitions only.
use Rattle.std.specs.Prelude.{ℕ, zero, suc, ◌+◌, ◌-◌, ◌%◌, Bool, true, false, List, [], ◌∷◌, ◌++◌, map, eqb, ℤ, pos, get_or}
use Rattle.clean.specs.Clean.{for_both, for_first, up_from}

abbrev pub number_of : List ℕ → ℕ
number_of d = get_or d 0 0

abbrev pub why_of : List ℕ → ℕ
why_of d = get_or d 1 0

-- v at a place of a row; a place past the end is the end
module _ {A : Type 0} where
  unfoldable pub insert_at : ℕ → A → List A → List A
  insert_at zero v row = v ∷ row
  insert_at (suc k) v [] = v ∷ []
  insert_at (suc k) v (p ∷ row) = p ∷ insert_at k v row

-- rows of any kind of point: what a copy made for a reason is, and what stands past the end
module _ {A : Type 0} (copied : ℕ → A → A) (past : A) where
  abbrev pub put_in : Bool → ℕ → ℕ → List A → List A
  put_in true place why row = row ++ (copied why (get_or row 0 past) ∷ [])
  put_in false place why row = insert_at place (copied why (get_or row (place - 1) past)) row

  abbrev pub restored : ℕ → ℕ → List A → List A
  restored place why row = put_in (eqb why for_first) place why row

  -- with so many drops before
  unfoldable pub put_back : ℕ → List (List ℕ) → List A → List A
  put_back before [] row = row
  put_back before (d ∷ later) row = restored (number_of d - before) (why_of d) (put_back (before + 1) later row)

-- ---- points: x, y, and bit 0 of the flag

pub data Point : Type 0 where
  point : ℤ → ℤ → ℕ → Point

-- a point that goes for both is off-curve, for before or first on-curve
abbrev pub bit_for : Bool → ℕ
bit_for true = 0
bit_for false = 1

-- its x and y are those of the point that it repeats
abbrev pub copied_for : ℕ → Point → Point
copied_for why (point x y bit) = point x y (bit_for (eqb why for_both))

abbrev pub past_end : Point
past_end = point (pos 0) (pos 0) 0

-- point k of three rows
abbrev pub point_at : List ℤ → List ℤ → List ℕ → ℕ → Point
point_at xs ys fs k = point (get_or xs k (pos 0)) (get_or ys k (pos 0)) (get_or fs k 0 % 2)

-- ---- what the entry writes: a point is put back as the place of the kept point that it copies, and how: 0 itself, 1 on-curve, 2 off-curve

abbrev pub mark_for : Bool → ℕ
mark_for true = 2
mark_for false = 1

abbrev pub copied_spot : ℕ → List ℕ → List ℕ
copied_spot why s = get_or s 0 0 ∷ mark_for (eqb why for_both) ∷ []

-- n points are kept; past the end stands the place past them
abbrev pub kept_spot : ℕ → List ℕ
kept_spot k = k ∷ 0 ∷ []

-- its bit: that of the kept point, or by the mark
abbrev pub bit_by : ℕ → ℕ → ℕ
bit_by zero own = own
bit_by (suc zero) own = 1
bit_by (suc (suc m)) own = 0

unfoldable pub spots_of : ℕ → List (List ℕ) → List (List ℕ)
spots_of n list = put_back copied_spot (kept_spot n) 0 list (map kept_spot (up_from 0 n))
