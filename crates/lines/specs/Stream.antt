-- The lines of a stream. Definitions only.
use Rattle.std.specs.Prelude.{ℕ, ◌+◌, ◌≤◌, ◌<◌, Bool, true, false, List, [], ◌∷◌, ◌≡◌, ltb, length, drop}
use Rattle.lines.specs.Line.{split, up_to}
use Rattle.lines.specs.Text.{Put}
use Rattle.lines.specs.declared.stream.Fed.{Fed}
use Rattle.lines.specs.declared.stream.Fed.TheVariants.{Line, Part}

-- what stands after the last stop is a part where it is not empty
unfoldable pub all_but_empty_last : List (List ℕ) → List (List ℕ)
all_but_empty_last [] = []
all_but_empty_last ([] ∷ []) = []
all_but_empty_last ((b ∷ bs) ∷ []) = (b ∷ bs) ∷ []
all_but_empty_last (line ∷ next ∷ lines) = line ∷ all_but_empty_last (next ∷ lines)

-- the parts that end with byte `stop`
unfoldable pub ended_by : ℕ → List ℕ → List (List ℕ)
ended_by stop bytes = all_but_empty_last (split stop bytes)

-- each line ends with byte 10
abbrev pub lines_of : List ℕ → List (List ℕ)
lines_of = ended_by 10

abbrev pub fed_if : Bool → ℕ → ℕ → Fed
fed_if true kept end = Line kept (end + 1)
fed_if false kept end = Part kept

-- the bytes up to the next line end are put after those that are kept; a line is whole where there is an end
pub record Feeds (buffer : List ℕ) (used : ℕ) (chunk : List ℕ) (from : ℕ) (buffer' : List ℕ) (r : Fed) : Type 0 where
  pub kept : ℕ
  pub puts : Put buffer used (up_to 10 (drop from chunk)) buffer' kept
  pub tells : r ≡ fed_if (ltb (from + length (up_to 10 (drop from chunk))) (length chunk)) kept (from + length (up_to 10 (drop from chunk)))

-- the buffer holds what is kept, and the next place lies in the chunk
abbrev pub Room : ℕ → ℕ → ℕ → Fed → Type 0
Room most from n (Line kept next) = (kept ≤ most) × (from < next) × (next ≤ n)
Room most from n (Part kept) = kept ≤ most
