-- Demand 3, of the optimiser's own answers, and of what their points are made, as types; the theorems `accepted_any` of proofs/Accepted and `quads_drawn`
-- of proofs/Drawn are of them. Statements only.
use Rattle.std.specs.Prelude.{ℕ, ◌<◌, List, map, ◌≡◌, T, length, Float, Some, true}
use Rattle.std.specs.Float.{binary64}
use Rattle.std.specs.Float.Ieee.{fits}
use Rattle.breaks.specs.Breaks.{Row, break_at}
use Rattle.chain.specs.Valid.{piece_quad, checked_chain}
use Rattle.attempt.specs.Answers.{Statelet, score_of}
use Rattle.optimize.specs.Optimize.{Measure, measure_by, solved, optimize_of}
use Rattle.pieces.specs.Pieces.{pieces_of}
use Rattle.pieces.specs.Slots.{quads_of}

-- of a run with some break, of which the first stands on doubles: the pieces of an answer that the optimiser ends with are a valid chain, and its score is
-- the sum that the checker works out
abbrev pub EveryAnswerAccepted : List (List Float) → Row → Float → Type 0
EveryAnswerAccepted samples breaks penalty =
    0 < length breaks → T (fits binary64 (break_at breaks 0).xy.x) → T (fits binary64 (break_at breaks 0).xy.y) → (a : Statelet) (pairs : ℕ) →
    optimize_of (measure_by samples breaks) breaks penalty ≡ solved a pairs → checked_chain samples breaks penalty (pieces_of a) (score_of a) ≡ Some true

-- the quads of an answer, of which points are made, are its pieces, each drawn between its breaks
abbrev pub QuadsAreDrawn : Type 0
QuadsAreDrawn =
    (measure : Measure) (breaks : Row) (penalty : Float) (a : Statelet) (pairs : ℕ) → optimize_of measure breaks penalty ≡ solved a pairs →
    quads_of a ≡ map (piece_quad breaks) (pieces_of a)
