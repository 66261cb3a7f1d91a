-- What `write_glyph` promises, of any rows. Definitions only.
use Rattle.std.specs.Prelude.{ℕ, ◌≡◌, ℤ, Result}
use Rattle.refusals.specs.declared.refusal.Refusal.{Refusal}
use Rattle.rows.specs.Lent.{Shared, shared, Lent, before, after, room}
use Rattle.glyf.specs.Layout.{Glyph, glyph, laid, left_by, written_of}
use Rattle.glyfwrite.specs.Writes.{answer_of}

-- the rows that are read: ends, x, y, flags, instructions
abbrev pub glyph_given : Shared ℕ → Shared ℤ → Shared ℤ → Shared ℕ → Shared ℕ → Glyph
glyph_given ends xs ys flags instructions = glyph (shared ends) (shared xs) (shared ys) (shared flags) (shared instructions)

-- the answer, and what the row of bytes holds: the description at its front, or, where refused, what it held
pub record Promise (g : Glyph) (out : Lent ℕ) (r : Result ℕ Refusal) : Type 0 where
  pub answer : r ≡ answer_of (written_of (room out) g)
  pub left : after out ≡ left_by laid (written_of (room out) g) (before out)
