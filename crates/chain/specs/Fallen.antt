-- How many lookups fell off the samples in the measures of a chain, as the checker makes them. Definitions only.
use Rattle.std.specs.Prelude.{ℕ, ◌+◌, Bool, true, false, List, [], ◌∷◌, Float, Option, Some, None}
use Rattle.breaks.specs.Breaks.{Row, break_at}
use Rattle.measure.specs.Fallen.{fallen_of}
use Rattle.chain.specs.Valid.{piece_quad, good_shape, sum_of, chain_in, even_rows}
use Rattle.chain.specs.declared.Piece.{Piece}

module _ (samples : List (List Float)) (breaks : Row) where
  -- in the measure of a piece, between the lengths of its two breaks
  abbrev pub fallen_of_piece : Piece → ℕ
  fallen_of_piece p = fallen_of samples (break_at breaks p.from).s (break_at breaks p.to).s (piece_quad breaks p)

  unfoldable pub fallen_along : List Piece → ℕ
  fallen_along [] = 0
  fallen_along (p ∷ ps) = fallen_of_piece p + fallen_along ps

  -- a measure that is refused leaves none
  abbrev pub unless_last : Option Float → ℕ → ℕ
  unless_last (Some s) n = n
  unless_last None n = 0

  unfoldable pub fallen_of_sum : Float → List Piece → ℕ
  fallen_of_sum penalty ps = unless_last (sum_of samples breaks penalty ps) (fallen_along ps)

  -- a chain whose rows are of unequal length, or whose shape is at fault, is not measured
  abbrev pub measured_if : Bool → ℕ → ℕ
  measured_if true n = n
  measured_if false n = 0

  unfoldable pub fallen_rows : Float → List ℕ → List ℕ → List Float → List Float → ℕ
  fallen_rows penalty starts ends xs ys =
      measured_if (even_rows starts ends xs ys)
      (measured_if (good_shape breaks (chain_in starts ends xs ys)) (fallen_of_sum penalty (chain_in starts ends xs ys)))
