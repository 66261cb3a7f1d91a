-- W9's profile of whole units: every piece of an accepted chain starts at a finite break on whole units. So none starts at a break that is a NaN or an
-- infinity, and such a break ends a piece only where it is the run's last. The statement is a type here, and `starts_on_units` of proofs/WholeUnits is
-- of that type. Statements only.
use Rattle.std.specs.Prelude.{ℕ, true, ◌≡◌, Float, Some}
use mathlib.Core.List.{List, Memᴰ}
use Rattle.geometry.specs.Geometry.{Finite}
use Rattle.breaks.specs.Breaks as Breaks
use Rattle.breaks.specs.Breaks.{Row, whole_grid, break_at, breaks_of}
use Rattle.chain.specs.Valid.{chain_in, check_rows}
use Rattle.chain.specs.Rule.{OnWhole}
use Rattle.chain.specs.declared.Piece.{Piece}

abbrev pub StartsOnUnits : Type 0
StartsOnUnits =
    (room : ℕ) (samples : List (List Float)) (len : Float) (breaks : Row) → breaks_of room samples whole_grid len ≡ Breaks.breaks breaks →
    (penalty : Float) (starts ends : List ℕ) (xs ys : List Float) (score : Float) → check_rows samples breaks penalty starts ends xs ys score ≡ Some true →
    (p : Piece) → Memᴰ p (chain_in starts ends xs ys) → OnWhole (break_at breaks p.from) × Finite (break_at breaks p.from).xy
