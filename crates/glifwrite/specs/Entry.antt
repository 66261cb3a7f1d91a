-- What `write_glif` promises, of any bytes and any rows. Definitions only.
use Rattle.std.specs.Prelude.{ℕ, List, ◌≡◌, ℤ, length, Result}
use Rattle.refusals.specs.declared.refusal.Refusal.{Refusal}
use denote.Triple.Both.{Both}
use Rattle.rows.specs.Lent.{Shared, shared, Lent, before, after}
use Rattle.glifwrite.specs.Writes.{GivenRows, given, answer_of, left_in}

abbrev pub rows_given : Shared ℕ → Shared ℤ → Shared ℤ → Shared ℕ → GivenRows
rows_given ends xs ys flags = given (shared ends) (shared xs) (shared ys) (shared flags)

-- the row as lent and as left
abbrev pub lent : Lent ℕ → Both (List ℕ) (List ℕ)
lent out = record { entry = before out; exit = after out }

-- the answer, and what the row holds: the file with other points at its front, or, where refused, what it held
pub record Promise (bytes : List ℕ) (g : GivenRows) (w : Both (List ℕ) (List ℕ)) (r : Result ℕ Refusal) : Type 0 where
  pub answer : r ≡ answer_of bytes g (length w.entry)
  pub left : w.exit ≡ left_in bytes g (length w.entry) w.entry
