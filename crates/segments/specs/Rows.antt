-- Worked rows of W8: run segments that end at 1, 2 and 3, with a length, and which of them holds it. The tie at an inner end and the NaN are met by no
-- contour that was tried. One list, and one computed test of it. Assumes nothing.
use Rattle.std.specs.Prelude.{ℕ, List, [], ◌∷◌, map, ◌≡◌, refl, Float}
use Rattle.std.specs.Float.Ieee as Ieee
use Rattle.std.specs.Float.{nan}
use Rattle.float.specs.Numbers.{nought, half, one, two, three, ten}
use Rattle.segments.specs.Segments.{first_holding, place_in, number_of}

-- a length, and the place in the run of the segment that holds it
pub record Row : Type 0 where
  pub length : Float
  pub place : ℕ

abbrev row : Float → ℕ → Row
row s k = record { length = s; place = k }

-- the ends of all but the last
abbrev pub ends : List Float
ends = one ∷ two ∷ []

-- the start; inside the first; the two ties, each to the earlier one; the run's end; past the end the last; a NaN the first
abbrev pub rows : List Row
rows = row nought 0 ∷ row half 0 ∷ row one 0 ∷ row two 1 ∷ row three 2 ∷ row ten 2 ∷ row nan 0 ∷ []

pub rows_hold : map (λ (r : Row). place_in ends r.length) rows ≡ map (λ (r : Row). r.place) rows
unfolding first_holding Ieee.is_nan Ieee.le Ieee.lt Ieee.eq Ieee.of_bits
rows_hold = refl

-- going round a contour of five: segments 3, 4, then 0
pub goes_round : map (number_of 5) (3 ∷ 4 ∷ 5 ∷ 6 ∷ []) ≡ 3 ∷ 4 ∷ 0 ∷ 1 ∷ []
goes_round = refl
