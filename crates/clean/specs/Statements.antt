-- What W11 asks to be proved of a cleaning, as types; a theorem of proofs/Theorems or proofs/Back is of each. Definitions and statements only.
use Rattle.std.specs.Prelude.{ℕ, ◌+◌, ◌-◌, Bool, true, false, List, [], ◌∷◌, map, ◌≡◌, eqb, ℤ, length, Ok}
use Rattle.refusals.specs.Refusals.{judged}
use Rattle.clean.specs.Clean.{on_place, same_place, cleaned, up_from, clean_of}
use Rattle.clean.specs.Pass.{swept}
use Rattle.clean.specs.PutBack.{number_of, put_back, spots_of, Point, point, copied_for, past_end, point_at}
use Rattle.clean.specs.Entry.{coordinate_in, bit_in, spot_x, spot_bit}

-- the numbers after place 0
abbrev pub after : List ℕ → List ℕ
after fs = up_from 1 (length fs - 1)

-- an upload that 1 to 5 let through, the numbers of its points that are kept, and the list
pub record CleanedTo (xs ys : List ℤ) (fs kept : List ℕ) (drops : List (List ℕ)) : Type 0 where
  pub fine : judged xs ys fs ≡ Ok tt
  pub is : clean_of xs ys fs (length fs - 1) ≡ cleaned kept drops

-- ---- one pass over the upload drops what the rule drops, lowest place first and from the start each time

abbrev pub OnePassCleans : Type 0
OnePassCleans =
    (xs ys : List ℤ) (fs : List ℕ) → judged xs ys fs ≡ Ok tt →
    swept (on_place fs) (same_place xs ys) 0 (after fs) ≡ clean_of xs ys fs (length fs - 1)

-- ---- every point not listed is kept in order

abbrev pub taken_if : Bool → ℕ → List ℕ → List ℕ
taken_if true p rest = rest
taken_if false p rest = p ∷ rest

-- a row without the number k, and without those that are listed
unfoldable pub without : ℕ → List ℕ → List ℕ
without k [] = []
without k (p ∷ rest) = taken_if (eqb p k) p (without k rest)

unfoldable pub unlisted : List (List ℕ) → List ℕ → List ℕ
unlisted [] row = row
unlisted (d ∷ drops) row = unlisted drops (without (number_of d) row)

-- place 0 stays, and then come those that are not listed: each point is kept or listed
pub record InOrder (fs kept : List ℕ) (drops : List (List ℕ)) : Type 0 where
  pub unlisted_stay : kept ≡ 0 ∷ unlisted drops (after fs)
  pub each : length kept + length drops ≡ length fs

abbrev pub KeptInOrder : Type 0
KeptInOrder = (xs ys : List ℤ) (fs kept : List ℕ) (drops : List (List ℕ)) → CleanedTo xs ys fs kept drops → InOrder fs kept drops

-- ---- what is left, in rows of its own

abbrev pub coordinates_left : List ℤ → List ℕ → List ℤ
coordinates_left row kept = map (coordinate_in row) kept

abbrev pub flags_left : List ℕ → List ℕ → List ℕ
flags_left fs kept = map (bit_in fs) kept

-- it is refused by none of 1 to 5; and cleaning twice drops nothing more
pub record Left (xs ys : List ℤ) (fs kept : List ℕ) : Type 0 where
  pub fine : judged (coordinates_left xs kept) (coordinates_left ys kept) (flags_left fs kept) ≡ Ok tt
  pub twice :
      clean_of (coordinates_left xs kept) (coordinates_left ys kept) (flags_left fs kept) (length kept - 1) ≡ cleaned (up_from 0 (length kept)) []

abbrev pub TwiceDropsNothing : Type 0
TwiceDropsNothing = (xs ys : List ℤ) (fs kept : List ℕ) (drops : List (List ℕ)) → CleanedTo xs ys fs kept drops → Left xs ys fs kept

-- ---- the list put back gives the upload's points

abbrev pub uploaded : List ℤ → List ℤ → List ℕ → List Point
uploaded xs ys fs = map (point_at xs ys fs) (up_from 0 (length fs))

-- the points that the putting-back entry writes of three rows and a list
abbrev pub spot_point : List ℤ → List ℤ → List ℕ → List ℕ → Point
spot_point xs ys fs s = point (spot_x xs s) (spot_x ys s) (spot_bit fs s)

abbrev pub written_back : List ℤ → List ℤ → List ℕ → List (List ℕ) → List Point
written_back xs ys fs list = map (spot_point xs ys fs) (spots_of (length fs) list)

pub record PutBack (xs ys : List ℤ) (fs kept : List ℕ) (drops : List (List ℕ)) : Type 0 where
  pub by_rule : put_back copied_for past_end 0 drops (map (point_at xs ys fs) kept) ≡ uploaded xs ys fs
  pub by_entry : written_back (coordinates_left xs kept) (coordinates_left ys kept) (flags_left fs kept) drops ≡ uploaded xs ys fs

abbrev pub ListPutBack : Type 0
ListPutBack = (xs ys : List ℤ) (fs kept : List ℕ) (drops : List (List ℕ)) → CleanedTo xs ys fs kept drops → PutBack xs ys fs kept drops
