-- Which points of an upload are dropped, in what order and why: document 02's W11. Definitions only.
-- A row is the numbers that its points have in the upload, from place 0 on; place 0 is told apart, since it always stays.
use Rattle.std.specs.Prelude.{ℕ, zero, suc, ◌+◌, Bool, true, false, not, ◌&&◌, List, [], ◌∷◌, ℤ, pos, get_or}
use Rattle.refusals.specs.Refusals.{is_on}
use Rattle.contour.specs.Implied.{same}

-- ---- the points of an upload, by number

-- equal means x and y
abbrev pub same_place : List ℤ → List ℤ → ℕ → ℕ → Bool
same_place xs ys a b = same (get_or xs a (pos 0)) (get_or xs b (pos 0)) && same (get_or ys a (pos 0)) (get_or ys b (pos 0))

abbrev pub on_place : List ℕ → ℕ → Bool
on_place fs a = is_on (get_or fs a 0)

-- ---- why a point goes: 0 it stays

abbrev pub for_before : ℕ
for_before = 1

abbrev pub for_both : ℕ
for_both = 2

abbrev pub for_first : ℕ
for_first = 3

abbrev pub or_else : Bool → ℕ → ℕ → ℕ
or_else true why later = why
or_else false why later = later

abbrev pub is_none : List ℕ → Bool
is_none [] = true
is_none (p ∷ rest) = false

-- the first of a row, or place 0, going round
abbrev pub next_in : ℕ → List ℕ → ℕ
next_in p0 [] = p0
next_in p0 (p ∷ rest) = p

-- what one look for the lowest place that may be dropped finds: none; or what is left of the row, the point's number, and why
pub data Look : Type 0 where
  none : Look
  gone : List ℕ → ℕ → ℕ → Look

-- the numbers of the points kept, place 0 among them; and the list, in the order of dropping, each drop its number and why
pub data Cleaning : Type 0 where
  cleaned : List ℕ → List (List ℕ) → Cleaning

abbrev pub behind : ℕ → Look → Look
behind p none = none
behind p (gone row k why) = gone (p ∷ row) k why

abbrev pub at_place : ℕ → ℕ → List ℕ → Look → Look
at_place zero p rest later = behind p later
-- a place with a reason hides those after it
at_place (suc w) p rest later = gone rest p (suc w)

abbrev pub listing : ℕ → ℕ → Cleaning → Cleaning
listing k why (cleaned kept drops) = cleaned kept ((k ∷ why ∷ []) ∷ drops)

abbrev pub unless_none : ℕ → List ℕ → Look → (List ℕ → Cleaning) → Cleaning
unless_none p0 rest none again = cleaned (p0 ∷ rest) []
unless_none p0 rest (gone row k why) again = listing k why (again row)

module _ (on : ℕ → Bool) (equal : ℕ → ℕ → Bool) (p0 : ℕ) where
  -- before: an on-curve point equal to the on-curve point before it
  abbrev pub is_before : ℕ → ℕ → Bool
  is_before before p = on p && (on before && equal p before)

  -- both: an off-curve point equal to both neighbours, going round
  abbrev pub is_both : ℕ → ℕ → ℕ → Bool
  is_both before p next = not (on p) && (equal p before && equal p next)

  -- first: a last on-curve point equal to the first point
  abbrev pub is_first : ℕ → List ℕ → Bool
  is_first p rest = is_none rest && (on p && equal p p0)

  -- the first of these three that holds, of p between the point before it and the rest of the row
  abbrev pub reason : ℕ → ℕ → List ℕ → ℕ
  reason before p rest =
      or_else (is_before before p) for_before (or_else (is_both before p (next_in p0 rest)) for_both (or_else (is_first p rest) for_first 0))

  -- the lowest place that may be dropped: of the row after the point before it
  unfoldable pub lowest : ℕ → List ℕ → Look
  lowest before [] = none
  lowest before (p ∷ rest) = at_place (reason before p rest) p rest (lowest p rest)

  -- lowest place first, until none remains; no more can go than there are
  unfoldable pub dropping : ℕ → List ℕ → Cleaning
  dropping zero rest = cleaned (p0 ∷ rest) []
  dropping (suc n) rest = unless_none p0 rest (lowest p0 rest) (dropping n)

-- the n numbers from k on
unfoldable pub up_from : ℕ → ℕ → List ℕ
up_from k zero = []
up_from k (suc n) = k ∷ up_from (k + 1) n

-- an upload of points 0 and n more
unfoldable pub clean_of : List ℤ → List ℤ → List ℕ → ℕ → Cleaning
clean_of xs ys fs n = dropping (on_place fs) (same_place xs ys) 0 n (up_from 1 n)
