-- A contour that stays unchanged is written as its own points, for a reader. Each statement is a type here, and a theorem of proofs/Came is of that
-- type. Definitions and statements only.
use Rattle.std.specs.Prelude.{ℕ, Bool, true, false, List, [], ◌∷◌, ◌++◌, map, reverse, ◌≡◌, ℤ, length, Ok}
use Rattle.refusals.specs.Refusals.{is_on, judged}
use Rattle.rows.specs.Sixteen.{SixteenBits}
use Rattle.contour.specs.Points.{Points, flag_if, start_point, unchanged_in}
use Rattle.contour.specs.Implied.{drop_implied, finished}
use Rattle.contour.specs.Output.{column, flags}

-- the points of the upload in their order, from place 0: x, y, and 1 on-curve or 0 off
unfoldable pub as_uploaded : List ℤ → List ℤ → List ℕ → Points
as_uploaded [] ys fs = []
as_uploaded (x ∷ xs) [] fs = []
as_uploaded (x ∷ xs) (y ∷ ys) [] = []
as_uploaded (x ∷ xs) (y ∷ ys) (f ∷ fs) = (x ∷ y ∷ flag_if (is_on f) ∷ []) ∷ as_uploaded xs ys fs

abbrev pub without_implied : Bool → Points → Points
without_implied closed ps = drop_implied closed ps

-- The crate's mode writes the points in their order and the start again, since the closing segment is one of its own. They go out reversed, so from the
-- start to the start, without those that are implied.
pub record InCratesMode (xs ys : List ℤ) (fs : List ℕ) : Type 0 where
  pub row : unchanged_in xs ys fs false ≡ as_uploaded xs ys fs ++ (start_point xs ys ∷ [])
  pub goes_out : finished false (unchanged_in xs ys fs false) ≡ without_implied false (start_point xs ys ∷ reverse (as_uploaded xs ys fs))

-- Closed mode writes the points in their order, the start not again; they go out so, without those that are implied.
pub record InClosedMode (xs ys : List ℤ) (fs : List ℕ) : Type 0 where
  pub row : unchanged_in xs ys fs true ≡ as_uploaded xs ys fs
  pub goes_out : finished true (unchanged_in xs ys fs true) ≡ without_implied true (as_uploaded xs ys fs)

-- of every contour of 16-bit points that refusals 1 to 5 let through
abbrev pub UnchangedInCratesMode : Type 0
UnchangedInCratesMode = (xs ys : List ℤ) (fs : List ℕ) → SixteenBits xs → SixteenBits ys → judged xs ys fs ≡ Ok tt → InCratesMode xs ys fs

abbrev pub UnchangedInClosedMode : Type 0
UnchangedInClosedMode = (xs ys : List ℤ) (fs : List ℕ) → judged xs ys fs ≡ Ok tt → InClosedMode xs ys fs

-- ---- of points as they were uploaded the output rows are given the rows of the upload, and flags 1 or 0

abbrev pub one_or_zero : Bool → ℕ
one_or_zero true = 1
one_or_zero false = 0

pub record UploadedRows (xs ys : List ℤ) (fs : List ℕ) : Type 0 where
  pub x : column 0 (as_uploaded xs ys fs) ≡ xs
  pub y : column 1 (as_uploaded xs ys fs) ≡ ys
  pub flag : flags (as_uploaded xs ys fs) ≡ map (λ (f : ℕ). one_or_zero (is_on f)) fs

abbrev pub UploadedHasItsRows : Type 0
UploadedHasItsRows = (xs ys : List ℤ) (fs : List ℕ) → length xs ≡ length fs → length ys ≡ length fs → UploadedRows xs ys fs
