-- Rows as an `ensures` has them. A row that is read is what it holds; of one that is lent to be written, what it held when it was lent, and what it
-- holds when it is handed back. Definitions only.
use Rattle.std.specs.Prelude.{ℕ, List, ◌≡◌, ℤ, length}
use Rattle.std.specs.Borrow.{Bor, MutBor}
use denote.Triple.Both.{Both}

-- a row that is read
abbrev pub Shared : Type 0 → Type 0
Shared X = Both (Bor (List X)) (Bor (List X))

abbrev pub shared : {X : Type 0} → Shared X → List X
shared row = row.entry.now

-- a row that is lent
abbrev pub Lent : Type 0 → Type 0
Lent X = Both (MutBor (List X)) (MutBor (List X))

abbrev pub before : {X : Type 0} → Lent X → List X
before row = row.entry.now

abbrev pub after : {X : Type 0} → Lent X → List X
after row = row.exit.now

-- how many places it has
abbrev pub room : {X : Type 0} → Lent X → ℕ
room row = length (before row)

-- ---- a contour, which is read: x, y, flags

pub data Inputs : Type 0 where
  inputs : List ℤ → List ℤ → List ℕ → Inputs

abbrev pub contour : Shared ℤ → Shared ℤ → Shared ℕ → Inputs
contour xs ys flags = inputs (shared xs) (shared ys) (shared flags)

-- ---- an export's contract: its entry's, of an answer that the report shows

pub record Shown {A R : Type 0} (show : A → R) (Promise : A → Type 0) (r : R) : Type 0 where
  pub answer : A
  pub is : r ≡ show answer
  pub promise : Promise answer
