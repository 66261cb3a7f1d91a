-- The output while the input comes chunk by chunk; last, what a reader should know of it, as types, which `however_cut` and `flushed` of proofs/Chunks
-- are of. Definitions and statements only.
use Rattle.std.specs.Prelude.{ℕ, ◌≤◌, ◌<◌, List, [], ◌∷◌, ◌++◌, ◌≡◌, length, take, drop}
use Rattle.words.specs.declared.Order.{Order}
use Rattle.rows.specs.Lent.{Lent, before, after}
use Rattle.lines.specs.Line.{up_to}
use Rattle.lines.specs.Text.{Put}
use Rattle.fontcrunch_cli.specs.Output.{output_of}
use Rattle.fontcrunch_cli.specs.declared.stream.Taken.{Taken}

-- `done` is the output for the lines that ended in `bytes`, and `left` is what is left of these: whatever comes after them, the output is `done`,
-- and then that for what is left and what comes
pub record Owes (s : Order) (bytes done left : List ℕ) : Type 0 where
  pub owes : (rest : List ℕ) → output_of s (bytes ++ rest) ≡ done ++ output_of s (left ++ rest)

-- a buffer with one byte more than a line may have, of which the first `used` are the line under way: no line end is among them
pub record Keeps (line : List ℕ) (used : ℕ) : Type 0 where
  pub long : length line ≡ 65537
  pub inside : used ≤ length line
  pub under_way : up_to 10 (take used line) ≡ take used line

-- from place `first` of a chunk to place `i`: what is put into `text` is the output for the lines that ended
pub record Reaches (s : Order) (text₀ line₀ : List ℕ) (used₀ : ℕ) (chunk : List ℕ) (first : ℕ) (text line : List ℕ) (used at i : ℕ) : Type 0 where
  pub done : List ℕ
  pub puts : Put text₀ 0 done text at
  pub keeps : Keeps line used
  pub inside : i ≤ length chunk
  pub owes : Owes s (take used₀ line₀ ++ drop first chunk) done (take used line ++ drop i chunk)

-- and a chunk that is not used up is gone on in
pub record Takes (s : Order) (text line : Lent ℕ) (used : ℕ) (chunk : List ℕ) (first : ℕ) (r : Taken) : Type 0 where
  pub reaches : Reaches s (before text) (before line) used chunk first (after text) (after line) r.used r.at r.next
  pub onward : first < length chunk → first < r.next

-- a whole chunk: some output is that for the lines that ended in it, and the first r bytes of the buffer are what is left
pub record Chunked (s : Order) (line : Lent ℕ) (used : ℕ) (chunk : List ℕ) (r : ℕ) : Type 0 where
  pub done : List ℕ
  pub keeps : Keeps (after line) r
  pub owes : Owes s (take used (before line) ++ chunk) done (take r (after line))

-- ---- the whole input

-- however it is cut: each chunk with what was left before it, then what is left at the end
pub data Written (s : Order) : List ℕ → List (List ℕ) → List ℕ → Type 0 where
  no_more : {left : List ℕ} → Written s left [] (output_of s left)
  one_more : {left bytes done left' later : List ℕ} {chunks : List (List ℕ)} → Owes s (left ++ bytes) done left' → Written s left' chunks later →
      Written s left (bytes ∷ chunks) (done ++ later)

-- the bytes of all chunks
unfoldable pub bytes_of : List (List ℕ) → List ℕ
bytes_of [] = []
bytes_of (chunk ∷ chunks) = chunk ++ bytes_of chunks

-- what is written for the chunks, however the input is cut, is the output for the whole input
abbrev pub HoweverCut : Type 0
HoweverCut = (s : Order) (left : List ℕ) (chunks : List (List ℕ)) (done : List ℕ) → Written s left chunks done → done ≡ output_of s (left ++ bytes_of chunks)

-- a text that ends below its buffer's length stands there whole, so that the bytes before its end are it
abbrev pub FlushedWhole : Type 0
FlushedWhole = (text done text' : List ℕ) (at : ℕ) → Put text 0 done text' at → at < length text → take at text' ≡ done
