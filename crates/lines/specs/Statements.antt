-- What a reader should know of lines, as types; a theorem of proofs/Theorems is of each. Definitions and statements only.
use Rattle.std.specs.Prelude.{ℕ, ◌+◌, ◌<◌, List, [], ◌∷◌, ◌++◌, ◌≡◌, ℤ, length, take, drop, Some}
use Rattle.std.proofs.lemmas.List.Edits.{sets}
use Rattle.lines.specs.Line.{split, up_to, natural_of, number_of, parsed_of}
use Rattle.lines.specs.Text.{Put, decimal_of, signed_of}

-- a number printed and read back is that number
abbrev pub DecimalReadBack : Type 0
DecimalReadBack = (n : ℕ) → natural_of (decimal_of n) ≡ Some n

abbrev pub NumberReadBack : Type 0
NumberReadBack = (z : ℤ) → number_of (signed_of z) ≡ Some z

-- A line of which no more than 65,537 bytes are held says what the whole line says: where it has more than 65,536 it is malformed.
abbrev pub CutSaysTheSame : Type 0
CutSaysTheSame = (line : List ℕ) → parsed_of (take 65537 line) ≡ parsed_of line

-- Lines do not depend on where chunks of input end: a line under way, with no stop in it, goes on with the first part of what comes.
abbrev pub on_first : List ℕ → List (List ℕ) → List (List ℕ)
on_first line [] = []
on_first line (p ∷ parts) = (line ++ p) ∷ parts

abbrev pub LineGoesOn : Type 0
LineGoesOn = (stop : ℕ) (line bytes : List ℕ) → up_to stop line ≡ line → split stop (line ++ bytes) ≡ on_first line (split stop bytes)

-- What is stored in a row from its start on: the first places hold the values, as many as there is room for, and the others what they held.
abbrev pub FirstPlacesHold : Type 0 → Type 0
FirstPlacesHold A = (row vs : List A) → sets row 0 vs ≡ take (length row) vs ++ drop (length vs) row

-- a text that ends below the buffer's length is whole
abbrev pub TextIsWhole : Type 0
TextIsWhole =
    (out text out' : List ℕ) (at r : ℕ) → Put out at text out' r → r < length out →
    (out' ≡ take at out ++ text ++ drop (at + length text) out) × (r ≡ at + length text)
