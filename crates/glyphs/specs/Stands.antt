-- What the steps leave in the rows. Definitions only.
use Rattle.std.specs.Prelude.{ℕ, ◌-◌, ◌≤◌, true, not, List, ◌≡◌, ltb, ℤ, length, take, drop, Result, Ok, Err}
use Rattle.refusals.specs.declared.refusal.Refusal.TheVariants.{TooLarge, NoSuchPenalty}
use Rattle.refusals.specs.declared.refusal.Refusal.{Refusal}
use Rattle.contour.specs.Points.{Points}
use Rattle.contour.specs.Output.{column, flags}
use Rattle.contour.specs.Writing.{Holds}
use Rattle.crunch.specs.Crunch as Crunch
use Rattle.crunch.specs.Stands.{Gives}
use Rattle.crunch.specs.declared.Crunched.{Crunched}
use Rattle.settings.specs.Settings.{settings_fine}
use Rattle.settings.specs.declared.Settings.{Settings}
use Rattle.glyf.specs.Layout.{Glyph, glyph, Outcome, done, refused, refuse, count_of, rising}
use Rattle.glyphs.specs.Glyphs.{and_then, numbered, together, ends_from}

-- the number of the last of so many points, where an end can hold it
abbrev pub Numbers : ℕ → ℕ → Type 0
Numbers total r = total ≤ 65536 → r ≡ total - 1

-- a contour from one point to another lies in the rows
pub record Part (from to xs ys flags : ℕ) : Type 0 where
  pub order : from ≤ to
  pub in_xs : to ≤ xs
  pub in_ys : to ≤ ys
  pub in_flags : to ≤ flags

-- an outcome after the points so far, which stay
pub record Adds (row₀ : Points) (at : ℕ) (row : Points) (o : Crunch.Outcome) (r : Result Crunched Refusal) : Type 0 where
  pub kept : take at row ≡ take at row₀
  pub gives : Gives (drop at row) o r

-- the ends rise, and there are as many points as the last of them says
pub record Apart (ends : List ℕ) (xs ys flags : ℕ) : Type 0 where
  pub rise : rising ends ≡ true
  pub as_xs : xs ≡ count_of ends
  pub as_ys : ys ≡ count_of ends
  pub as_flags : flags ≡ count_of ends

-- the points of all contours stand in the first places of the row; and the ends are theirs, where they can be numbered
pub data Gathers (row : Points) (ends : List ℕ) : Outcome (List Points) → Result ℕ Refusal → Type 0 where
  no : {r : Result ℕ Refusal} {k : Refusal} → r ≡ Err k → Gathers row ends (refused k) r
  yes : {r : Result ℕ Refusal} {contours : List Points} {n : ℕ} → r ≡ Ok n → Holds row n (together contours) →
      (n ≤ 65536 → ends ≡ ends_from 0 contours) → Gathers row ends (done contours) r

-- so many points stand in a row of that length, and the rows that they pass through have places for them
abbrev pub Fits : (points xs ys flags n : ℕ) → Type 0
Fits points xs ys flags n = (n ≤ points) × (n ≤ xs) × (n ≤ ys) × (n ≤ flags)

abbrev pub FitsIn : (points xs ys flags : ℕ) → Result ℕ Refusal → Type 0
FitsIn points xs ys flags (Err k) = Unit
FitsIn points xs ys flags (Ok n) = Fits points xs ys flags n

-- 16, 14, or so many points
abbrev pub judged_by : Settings → ℕ → Outcome ℕ
judged_by settings n = refuse NoSuchPenalty (not (settings_fine settings)) (refuse TooLarge (ltb 65536 n) (done n))

-- points stand in the first n places of three rows
pub record Placed (ps : Points) (n : ℕ) (xs ys : List ℤ) (fs : List ℕ) : Type 0 where
  pub in_xs : n ≤ length xs
  pub in_ys : n ≤ length ys
  pub in_flags : n ≤ length fs
  pub are_xs : take n xs ≡ column 0 ps
  pub are_ys : take n ys ≡ column 1 ps
  pub are_flags : take n fs ≡ flags ps

-- so do the first points of a row, where nothing is refused
pub data Copied (row : Points) (xs ys : List ℤ) (fs : List ℕ) : Outcome ℕ → Result ℕ Refusal → Type 0 where
  not_copied : {r : Result ℕ Refusal} {k : Refusal} → r ≡ Err k → Copied row xs ys fs (refused k) r
  copied : {r : Result ℕ Refusal} {n : ℕ} → r ≡ Ok n → Placed (take n row) n xs ys fs → Copied row xs ys fs (done n) r

abbrev pub Copies : Settings → Points → ℕ → List ℤ → List ℤ → List ℕ → Result ℕ Refusal → Type 0
Copies settings row n xs ys fs r = Copied row xs ys fs (judged_by settings n) r

-- the points of all contours stand in the first places of three rows, and the ends are theirs
pub data Renews (ends : List ℕ) (xs ys : List ℤ) (fs : List ℕ) : Outcome (List Points) → Result ℕ Refusal → Type 0 where
  not_renewed : {r : Result ℕ Refusal} {k : Refusal} → r ≡ Err k → Renews ends xs ys fs (refused k) r
  renewed : {r : Result ℕ Refusal} {contours : List Points} {n : ℕ} → r ≡ Ok n → ends ≡ ends_from 0 contours → Placed (together contours) n xs ys fs →
      Renews ends xs ys fs (done contours) r

-- whatever the row was gathered from
abbrev pub CopiesAll : Settings → Points → Result ℕ Refusal → List ℤ → List ℤ → List ℕ → Result ℕ Refusal → Type 0
CopiesAll settings row g xs ys fs r =
    (ends : List ℕ) (o : Outcome (List Points)) → Gathers row ends o g → Renews ends xs ys fs (and_then o (numbered settings)) r

-- so many contours, of so many points, in the first places of rows of these lengths: the ends rise, and there are as many points as the last of them
-- says
pub record Held (ends : List ℕ) (xs ys flags contours count : ℕ) : Type 0 where
  pub in_ends : contours ≤ length ends
  pub in_xs : count ≤ xs
  pub in_ys : count ≤ ys
  pub in_flags : count ≤ flags
  pub rise : rising (take contours ends) ≡ true
  pub counted : count ≡ count_of (take contours ends)

-- the first places of the rows, as a glyph of so many contours, points and instruction bytes
abbrev pub first_of : ℕ → ℕ → ℕ → Glyph → Glyph
first_of contours count size w =
    glyph (take contours w.ends) (take count w.xs) (take count w.ys) (take count w.flags) (take size w.instructions)

-- a glyph stands in the first places of the rows
pub record Stood (w : Glyph) (contours count size : ℕ) : Type 0 where
  pub in_ends : contours ≤ length w.ends
  pub in_xs : count ≤ length w.xs
  pub in_ys : count ≤ length w.ys
  pub in_flags : count ≤ length w.flags
  pub in_instructions : size ≤ length w.instructions
  pub rise : rising (take contours w.ends) ≡ true
  pub counted : count ≡ count_of (take contours w.ends)
