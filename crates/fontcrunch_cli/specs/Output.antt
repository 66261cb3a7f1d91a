-- What the program writes. Definitions only.
use Rattle.std.specs.Prelude.{ℕ, List, [], ◌∷◌, ◌++◌}
use Rattle.words.specs.declared.Order.{Order}
use Rattle.lines.specs.Stream.{lines_of}
use Rattle.answering.specs.Answer.{line_text}

-- the answer to each line, in order, and byte 10 after it
unfoldable pub answers_to : Order → List (List ℕ) → List ℕ
answers_to s [] = []
answers_to s (line ∷ lines) = (line_text s line ++ (10 ∷ [])) ++ answers_to s lines

-- of what it reads
unfoldable pub output_of : Order → List ℕ → List ℕ
output_of s input = answers_to s (lines_of input)
