-- The answer to a line. Definitions only.
use Rattle.std.specs.Prelude.{ℕ, ◌+◌, ◌/◌, ◌≤◌, min, Bool, true, false, List, [], ◌∷◌, ◌++◌, map, ◌≡◌, ℤ, length, Float, Option, Some, None, Result, Ok, Err}
use Rattle.refusals.specs.Number.{number_of}
use Rattle.refusals.specs.declared.refusal.Refusal.{Refusal}
use Rattle.contour.specs.Output.{Outputs, outputs, column, flags}
use Rattle.rows.specs.Rows.{work}
use Rattle.edition.specs.Scratch.{rooms_of, full_rooms}
use Rattle.edition.specs.Laws.{Within}
use Rattle.crunch.specs.Crunch.{Outcome, refused, crunched, crunch_of}
use Rattle.crunch.specs.Laws.{for_room}
use Rattle.crunch.specs.declared.Crunched as C
use Rattle.lines.specs.Text.{Put, decimal_of}
use Rattle.lines.specs.Line.{parsed_of}
use Rattle.lines.specs.declared.line.Point.{Point}
use Rattle.lines.specs.Answer.{ok_text, refused_text}
use Rattle.words.specs.declared.Order.{Order}

-- ` fallen `
abbrev pub fallen_word : List ℕ
fallen_word = 32 ∷ 102 ∷ 97 ∷ 108 ∷ 108 ∷ 101 ∷ 110 ∷ 32 ∷ []

-- the lookups that fell, at the end of an answer, where they are asked for
abbrev pub fallen_text : Bool → ℕ → List ℕ
fallen_text true n = fallen_word ++ decimal_of n
fallen_text false n = []

-- a refusal has none
abbrev pub outcome_text : Bool → Outcome → List ℕ
outcome_text told (refused k) = refused_text (number_of k) ++ fallen_text told 0
outcome_text told (crunched ps t) = ok_text (column 0 ps) (column 1 ps) (flags ps) t.pairs (length ps) ++ fallen_text told t.fallen

-- as the crunch entry hands it back, with the output rows
abbrev pub entry_text : Bool → Result C.Crunched Refusal → Outputs → List ℕ
entry_text told (Err k) o = refused_text (number_of k) ++ fallen_text told 0
entry_text told (Ok c) (outputs ox oy of) = ok_text ox oy of c.tally.pairs c.points ++ fallen_text told c.tally.fallen

-- refused for want of room
abbrev pub short_in : Result C.Crunched Refusal → Bool
short_in (Err k) = for_room k
short_in (Ok c) = false

-- every output row has so many places
abbrev pub Roomy : ℕ → Outputs → Type 0
Roomy n (outputs ox oy of) = (n ≤ length ox) × (n ≤ length oy) × (n ≤ length of)

-- no row is longer than document 01's full rooms
abbrev pub NoLonger : List (List Float) → List (List Float) → List (List Float) → List ℕ → List (List ℤ) → Type 0
NoLonger samples breaks answers links points = Within (rooms_of (work samples breaks answers links)) full_rooms × (length points ≤ 16384)

-- of a contour
unfoldable pub answer_text : Order → List ℤ → List ℤ → List ℕ → List ℕ
answer_text o xs ys fs = outcome_text o.told (crunch_of full_rooms 16384 o.settings xs ys fs)

-- `malformed`
abbrev pub malformed_word : List ℕ
malformed_word = 109 ∷ 97 ∷ 108 ∷ 102 ∷ 111 ∷ 114 ∷ 109 ∷ 101 ∷ 100 ∷ []

abbrev pub parsed_text : Order → Option (List Point) → List ℕ
parsed_text o (Some ps) = answer_text o (map (λ (p : Point). p.x) ps) (map (λ (p : Point). p.y) ps) (map (λ (p : Point). p.flag) ps)
parsed_text o None = malformed_word

-- of a line, without its end
unfoldable pub line_text : Order → List ℕ → List ℕ
line_text o line = parsed_text o (parsed_of line)

-- the places that a row for the points of a line needs: one for every six bytes, blanks among them; of more than 1,024 points the number is all
-- that counts
abbrev pub places_for : List ℕ → ℕ
places_for line = min ((length line + 1) / 6) 1025

-- text put; or nothing, where the rows are too short
abbrev pub Tries : List ℕ → ℕ → List ℕ → List ℕ → Option ℕ → Type 0
Tries out at text out' (Some r) = Put out at text out' r
Tries out at text out' None = out' ≡ out
