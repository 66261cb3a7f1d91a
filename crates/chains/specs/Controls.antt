-- The controls that the chain entry writes: none has a NaN, in a run whose last break has none. So each has one pattern of bits, and the entry's promise fixes
-- its rows also in bits. The theorem `no_nan_written` of proofs/Controls is of the statement here. Statements only.
use Rattle.std.specs.Prelude.{ℕ, ◌-◌, false, List, ◌≡◌, Float, ℤ, length, Some}
use Rattle.quickmeasure.specs.Statements.{has_nan}
use Rattle.breaks.specs.Breaks.{Row, break_at}
use Rattle.runs.specs.Runs.{numbered_run}
use Rattle.samples.specs.Samples.{Sample}
use Rattle.survey.specs.Survey.{surveyed, survey_of}
use Rattle.settings.specs.Settings.{grid_of}
use Rattle.settings.specs.declared.Settings.{Settings}
use Rattle.optimize.specs.declared.Tally.{Tally}
use Rattle.edition.specs.Edition.{Rooms}
use Rattle.chain.specs.declared.Piece.{Piece}
use Rattle.pieces.specs.Slots.{Each}
use Rattle.chains.specs.Chains.{chained, chain_of}

abbrev pub NoNanWritten : Type 0
NoNanWritten =
    (rooms : Rooms) (room : ℕ) (settings : Settings) (xs ys : List ℤ) (fs : List ℕ) (k first count : ℕ) (samples : List Sample) (breaks : Row) →
    numbered_run settings.closed xs ys fs k ≡ Some (record { first = first; count = count }) →
    survey_of rooms.samples rooms.breaks xs ys fs first count (grid_of settings) ≡ surveyed samples breaks →
    has_nan (break_at breaks (length breaks - 1)).xy ≡ false → (ps : List Piece) (score : Float) (tally : Tally) →
    chain_of rooms room settings xs ys fs k ≡ chained ps score tally → Each (λ (p : Piece). has_nan p.control ≡ false) ps
