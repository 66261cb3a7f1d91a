-- What `read_glyph` promises, of any bytes and any rows. Definitions only.
use Rattle.std.specs.Prelude.{ℕ, List, ◌≡◌, ℤ, Result}
use Rattle.refusals.specs.declared.refusal.Refusal.{Refusal}
use denote.Triple.Both.{Both}
use Rattle.rows.specs.Lent.{Lent, before, after}
use Rattle.glyf.specs.Layout.{Glyph, glyph, laid_in, left_by, rooms_of, read_of}
use Rattle.glyfread.specs.Reads.{answer_of}
use Rattle.glyfread.specs.declared.read.Counts.{Counts}

-- the rows that are filled: ends, x, y, flags, instructions; as lent and as left
abbrev pub filled : Lent ℕ → Lent ℤ → Lent ℤ → Lent ℕ → Lent ℕ → Both Glyph Glyph
filled ends xs ys flags instructions = record {
  entry = glyph (before ends) (before xs) (before ys) (before flags) (before instructions);
  exit = glyph (after ends) (after xs) (after ys) (after flags) (after instructions);
}

-- the answer, and what the rows hold: each part of the glyph at the front of its row, or, where refused, what they held
pub record Promise (bytes : List ℕ) (w : Both Glyph Glyph) (r : Result Counts Refusal) : Type 0 where
  pub answer : r ≡ answer_of (read_of (rooms_of w.entry) bytes)
  pub left : w.exit ≡ left_by laid_in (read_of (rooms_of w.entry) bytes) w.entry
