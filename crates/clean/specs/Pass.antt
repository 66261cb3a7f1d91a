-- One pass over an upload, which keeps or drops each point by what is kept before it, and then looks at the last one kept. That it drops the
-- same points as dropping the lowest place first, from the start each time, is proofs/Shortcut.antt. Definitions only.
use Rattle.std.specs.Prelude.{ℕ, zero, suc, ◌+◌, ◌-◌, ◌≤◌, ◌<◌, Bool, true, false, ◌&&◌, List, [], ◌∷◌, ◌++◌, ◌≡◌, ltb, length, take, set}
use Rattle.clean.specs.Clean.{for_before, for_both, for_first, or_else, next_in, Cleaning, cleaned, is_before, is_both}
use Rattle.clean.specs.declared.Passed.{Passed}
use Rattle.clean.specs.declared.Cleaned.{Cleaned}

abbrev pub pick_number : Bool → ℕ → ℕ → ℕ
pick_number true a b = a
pick_number false a b = b

-- the number after i, of n, going round
abbrev pub after_of : ℕ → ℕ → ℕ
after_of i n = pick_number (ltb (i + 1) n) (i + 1) 0

-- where a pass is: the last point kept, the points kept, the drops
pub data Going : Type 0 where
  going : ℕ → List ℕ → List (List ℕ) → Going

abbrev pub step_of : ℕ → ℕ → Going → Going
step_of zero p (going last kept drops) = going p (kept ++ (p ∷ [])) drops
step_of (suc w) p (going last kept drops) = going last kept (drops ++ ((p ∷ suc w ∷ []) ∷ []))

abbrev pub last_of : Going → ℕ
last_of (going last kept drops) = last

module _ (on : ℕ → Bool) (equal : ℕ → ℕ → Bool) (p0 : ℕ) where
  -- before or both, of p between the last point kept and the next
  abbrev pub repeats : ℕ → ℕ → ℕ → ℕ
  repeats last p next = or_else (is_before on equal p0 last p) for_before (or_else (is_both on equal p0 last p next) for_both 0)

  unfoldable pub passing : Going → List ℕ → Going
  passing g [] = g
  passing g (p ∷ rest) = passing (step_of (repeats (last_of g) p (next_in p0 rest)) p g) rest

  -- the last point kept goes if it is on-curve and equal to the first; it is not the first itself
  abbrev pub closes : Going → Bool
  closes (going last kept drops) = ltb 1 (length kept) && (on last && equal last p0)

  abbrev pub close_if : Bool → Going → Cleaning
  close_if true (going last kept drops) = cleaned (take (length kept - 1) kept) (drops ++ ((last ∷ for_first ∷ []) ∷ []))
  close_if false (going last kept drops) = cleaned kept drops

  abbrev pub closing : Going → Cleaning
  closing g = close_if (closes g) g

  -- the whole pass, over points `p0` and the rest
  abbrev pub swept : List ℕ → Cleaning
  swept rest = closing (passing (going p0 (p0 ∷ []) []) rest)

-- ---- the rows that a pass fills

-- before the first point after place 0
abbrev pub start_of : Going
start_of = going 0 (0 ∷ []) []

-- rows that hold n points: 1 to 1,024
pub record Roomy (n kept_row goneRow : ℕ) : Type 0 where
  pub some : 1 ≤ n
  pub few : n ≤ 1024
  pub kept : n ≤ kept_row
  pub gone : n ≤ goneRow

abbrev pub counted_as : ℕ → Cleaned → Cleaned
counted_as zero at = record { kept = at.kept + 1; dropped = at.dropped }
counted_as (suc w) at = record { kept = at.kept; dropped = at.dropped + 1 }

abbrev pub numbered_as : ℕ → ℕ → Passed → Passed
numbered_as zero i at = record { last = i; kept = at.kept + 1; dropped = at.dropped }
numbered_as (suc w) i at = record { last = at.last; kept = at.kept; dropped = at.dropped + 1 }

-- what the rows hold so far
abbrev pub held_in : List ℕ → List (List ℕ) → Passed → Going
held_in kept gone at = going at.last (take at.kept kept) (take at.dropped gone)

-- after n points the rows hold what a pass has come to
pub record Stands (n : ℕ) (kept : List ℕ) (gone : List (List ℕ)) (at : Passed) (g : Going) : Type 0 where
  pub some : 1 ≤ at.kept
  pub inside : at.last < n
  pub all : at.kept + at.dropped ≡ n
  pub is : held_in kept gone at ≡ g

-- the last point kept may go for first
abbrev pub ends_first : (ℕ → Bool) → (ℕ → ℕ → Bool) → Passed → Bool
ends_first on equal at = ltb 1 at.kept && (on at.last && equal at.last 0)

abbrev pub closed_row : Bool → Passed → List (List ℕ) → List (List ℕ)
closed_row true at gone = set gone at.dropped (at.last ∷ for_first ∷ [])
closed_row false at gone = gone

abbrev pub closed_at : Bool → Passed → Passed
closed_at true at = record { last = at.last; kept = at.kept - 1; dropped = at.dropped + 1 }
closed_at false at = at

pub record Closed (ends : Bool) (at : Passed) (gone gone' : List (List ℕ)) (r : Passed) : Type 0 where
  pub row : gone' ≡ closed_row ends at gone
  pub counts : r ≡ closed_at ends at

-- at the end: so many kept, so many dropped
pub record Holds (kept : List ℕ) (gone : List (List ℕ)) (at : Passed) (c : Cleaning) : Type 0 where
  pub kept_in : at.kept ≤ length kept
  pub dropped_in : at.dropped ≤ length gone
  pub is : cleaned (take at.kept kept) (take at.dropped gone) ≡ c
