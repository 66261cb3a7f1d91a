-- W9's profile of whole units, as `HALF_STEP` false has it in the Rust: a coordinate is rounded, and no finite break is off whole units. Each statement
-- is a type here, and a theorem of proofs/WholeUnits is of that type. Statements only.
use Rattle.std.specs.Prelude.{ℕ, ◌<◌, true, List, ◌≡◌, T, length, Float}
use Rattle.std.specs.Float.{binary64}
use Rattle.std.specs.Float.Ieee.{fits}
use Rattle.std.specs.Float.Ieee.Scale.{finite}
use Rattle.float.specs.Float.{round_of}
use Rattle.geometry.specs.Geometry.{is_int, is_whole, Finite}
use Rattle.breaks.specs.Breaks.{Row, on_grid, whole_grid, break_at, breaks, breaks_of}

-- 1 * round(1 * x) is round(x), bit for bit, for every f64: a NaN, an infinity and either zero among them
abbrev pub WholeIsRound : Type 0
WholeIsRound = (x : Float) → T (fits binary64 x) → on_grid whole_grid x ≡ round_of x

-- what is brought to this grid is on whole units, where it is finite
abbrev pub WholeOnUnits : Type 0
WholeOnUnits = (x : Float) → T (finite (on_grid whole_grid x)) → is_int (on_grid whole_grid x) ≡ true

-- no finite break of a run is off whole units
abbrev pub NoneOffUnits : Type 0
NoneOffUnits =
    (room : ℕ) (samples : List (List Float)) (len : Float) (row : Row) → breaks_of room samples whole_grid len ≡ breaks row →
    (i : ℕ) → i < length row → Finite (break_at row i).xy → is_whole (break_at row i).xy ≡ true
