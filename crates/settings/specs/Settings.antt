-- What a caller chooses, what the work takes of it, and refusal 16. Definitions only.
use Rattle.std.specs.Prelude.{ℕ, Bool, true, false, not, ◌&&◌, List, eqb, leb, ltb, Float, ℤ, pos, Result, Ok, Err}
use Rattle.std.specs.Float.{binary64}
use Rattle.std.specs.Float.Ieee.{of_int, div}
use Rattle.float.specs.Numbers.{sixteen}
use Rattle.refusals.specs.Refusals.{judged, refuse}
use Rattle.refusals.specs.declared.refusal.Refusal.TheVariants.{NoSuchPenalty}
use Rattle.refusals.specs.declared.refusal.Refusal.{Refusal}
use Rattle.breaks.specs.Breaks.{half_grid, whole_grid}
use Rattle.breaks.specs.declared.Grid.{Grid}
use Rattle.settings.specs.declared.Settings.{Settings}

-- a penalty in sixteenths, as a float. The quotient is exact: `PenaltyIsExact` of specs/Statements
unfoldable pub penalty_of : Settings → Float
penalty_of s = div binary64 (of_int binary64 (pos s.penalty)) sixteen

-- what the breaks are rounded to: the profile of whole units, or the crate's half units
abbrev pub grid_by : Bool → Grid
grid_by true = whole_grid
grid_by false = half_grid

abbrev pub grid_of : Settings → Grid
grid_of s = grid_by s.whole_units

-- 0 is no, and any other number yes
abbrev pub yes_of : ℕ → Bool
yes_of n = not (eqb n 0)

-- of numbers, as C and Rust programs give them: the penalty in sixteenths; whether breaks are rounded to whole units; whether the mode is closed
abbrev pub settings_of : ℕ → ℕ → ℕ → Settings
settings_of penalty whole closed = record { penalty = penalty; whole_units = yes_of whole; closed = yes_of closed }

-- document 01's: the penalty 1.0, half units, the crate's mode
abbrev pub crate_settings : Settings
crate_settings = settings_of 16 0 0

-- document 02's default: the penalty 2.0, half units, the crate's mode
abbrev pub default_settings : Settings
default_settings = settings_of 32 0 0

-- ---- refusal 16

-- a penalty of 1 to 256 sixteenths
abbrev pub settings_fine : Settings → Bool
settings_fine s = ltb 0 s.penalty && leb s.penalty 256

-- 16: a penalty outside the range, after all refusals of the input rows
abbrev pub then_settings : Settings → Result Unit Refusal → Result Unit Refusal
then_settings s (Err k) = Err k
then_settings s (Ok _) = refuse NoSuchPenalty (not (settings_fine s)) (Ok tt)

-- what a contour and the choice for it are refused for before any run is worked
unfoldable pub judged_for : Settings → List ℤ → List ℤ → List ℕ → Result Unit Refusal
judged_for s xs ys fs = then_settings s (judged xs ys fs)
