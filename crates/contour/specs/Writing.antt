-- Points that are written to a row with a room: the points so far, or that there were more than the room. Definitions only.
use Rattle.std.specs.Prelude.{ℕ, ◌≤◌, Bool, true, false, List, ◌++◌, ◌≡◌, ltb, ℤ, length, take}
use Rattle.contour.specs.Points.{Points, around}
use Rattle.contour.specs.declared.Written.{Written}

pub data Writing : Type 0 where
  so : Points → Writing
  over : Writing

abbrev pub unless_over : Bool → Points → Writing
unless_over true ps = over
unless_over false ps = so ps

-- the points, where the room takes them all
unfoldable pub written : ℕ → Points → Writing
written room ps = unless_over (ltb room (length ps)) ps

-- more points after those that are written; once over, it stays over
abbrev pub extended : ℕ → Writing → Points → Writing
extended room (so ps) qs = written room (ps ++ qs)
extended room over qs = over

-- ---- what the functions leave in a row

abbrev pub writing_in : Points → Written → Writing
writing_in row w = unless_over w.over (take w.count row)

-- what stands in a row with w written is s
pub record Wrote (row : Points) (w : Written) (s : Writing) : Type 0 where
  pub within : w.count ≤ length row
  pub is : writing_in row w ≡ s

-- a row₀ with w written becomes a row with r written: the points ps come after the others
abbrev pub Appended : Points → Written → Points → Written → Points → Type 0
Appended row₀ w row r ps = Wrote row r (extended (length row₀) (writing_in row₀ w) ps)

-- a row₀ with w written becomes a row with r written: whatever points they were go round from s
abbrev pub Closed : Points → Written → Points → Written → List ℤ → Type 0
Closed row₀ w row r s = (ps : Points) → Wrote row₀ w (written (length row₀) ps) → Wrote row r (written (length row₀) (around s ps))

-- the first n places hold the points ps
pub record Holds (row : Points) (n : ℕ) (ps : Points) : Type 0 where
  pub within : n ≤ length row
  pub are : take n row ≡ ps
