-- What the steps leave in the rows. Definitions only.
use Rattle.std.specs.Prelude.{ℕ, ◌≤◌, List, ◌≡◌, length, Result}
use Rattle.refusals.specs.declared.refusal.Refusal.{Refusal}
use Rattle.glyf.specs.Layout.{Outcome}
use Rattle.glifwrite.specs.Writes.{GivenRows}
use Rattle.glifs.specs.Glifs.{shown_of, left_of}

-- so many contours and points have places in rows of these lengths
pub record InRows (ends xs ys flags contours count : ℕ) : Type 0 where
  pub in_ends : contours ≤ ends
  pub in_xs : count ≤ xs
  pub in_ys : count ≤ ys
  pub in_flags : count ≤ flags

-- the rows are written into the file, at the front of the row of bytes; where refused that is not changed
pub record Writes (bytes out out' : List ℕ) (o : Outcome GivenRows) (r : Result ℕ Refusal) : Type 0 where
  pub answer : r ≡ shown_of bytes (length out) o
  pub left : out' ≡ left_of bytes o out
