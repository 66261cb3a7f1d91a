-- Which points of an upload are idle controls, and what is kept without them. A place is judged by the upload alone. Definitions only.
use Rattle.std.specs.Prelude.{ℕ, zero, suc, ◌-◌, ◌≤◌, List, [], ◌∷◌, ◌++◌, ◌≡◌, ltb, ℤ, length, take}
use Rattle.clean.specs.Clean.{same_place, on_place, or_else, Cleaning, cleaned, up_from}
use Rattle.clean.specs.Pass.{pick_number, after_of}
use Rattle.clean.specs.declared.Cleaned.{Cleaned}

-- the number before i, of n, going round
abbrev pub before_of : ℕ → ℕ → ℕ
before_of i n = pick_number (ltb 0 i) (i - 1) (n - 1)

-- ---- which neighbour a point is idle on: 0 it is not idle

abbrev pub on_before : ℕ
on_before = 1

abbrev pub on_after : ℕ
on_after = 2

-- an off-curve point equal, in x and y, to the point before it or to the one after it, going round: the first that holds. In a contour that
-- 1 to 5 let through both are on-curve.
unfoldable pub beside_of : List ℤ → List ℤ → List ℕ → ℕ → ℕ
beside_of xs ys fs i =
    let n = length fs in
    or_else (on_place fs i) 0
    (or_else (same_place xs ys i (before_of i n)) on_before (or_else (same_place xs ys i (after_of i n)) on_after 0))

-- ---- a row of places, sifted

-- what each place of a row gives, in order
module _ {A : Type 0} (gives : ℕ → List A) where
  unfoldable pub gathered : List ℕ → List A
  gathered [] = []
  gathered (p ∷ rest) = gives p ++ gathered rest

-- a point that is not idle is kept
abbrev pub kept_at : ℕ → ℕ → List ℕ
kept_at zero p = p ∷ []
kept_at (suc w) p = []

-- one that is idle is listed, with the neighbour that it is idle on
abbrev pub listed_at : ℕ → ℕ → List (List ℕ)
listed_at zero p = []
listed_at (suc w) p = (p ∷ suc w ∷ []) ∷ []

module _ (beside : ℕ → ℕ) where
  abbrev pub kept_of : List ℕ → List ℕ
  kept_of row = gathered (λ (p : ℕ). kept_at (beside p) p) row

  abbrev pub list_of : List ℕ → List (List ℕ)
  list_of row = gathered (λ (p : ℕ). listed_at (beside p) p) row

-- the places of an upload
abbrev pub places_of : List ℕ → List ℕ
places_of fs = up_from 0 (length fs)

abbrev pub idle_of : List ℤ → List ℤ → List ℕ → Cleaning
idle_of xs ys fs =
    let beside = beside_of xs ys fs in
    cleaned (kept_of beside (places_of fs)) (list_of beside (places_of fs))

-- ---- the rows that a pass fills

-- at the end: so many kept, so many dropped
pub record Sifted (kept : List ℕ) (gone : List (List ℕ)) (at : Cleaned) (c : Cleaning) : Type 0 where
  pub kept_in : at.kept ≤ length kept
  pub dropped_in : at.dropped ≤ length gone
  pub is : cleaned (take at.kept kept) (take at.dropped gone) ≡ c
