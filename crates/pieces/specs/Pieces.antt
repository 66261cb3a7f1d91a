-- The pieces of an answer, first to last, as a chain has them. Definitions only.
use Rattle.std.specs.Prelude.{List, [], ◌∷◌, ◌++◌}
use Rattle.chain.specs.declared.Piece as C
use Rattle.attempt.specs.Answers.{Leg, Statelet, first, on}

abbrev pub as_piece : Leg → C.Piece
as_piece p = record { from = p.from; to = p.to; control = p.quad.p1 }

unfoldable pub pieces_of : Statelet → List C.Piece
pieces_of (first p s) = as_piece p ∷ []
pieces_of (on a p s) = pieces_of a ++ (as_piece p ∷ [])
