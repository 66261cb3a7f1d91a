-- The contract of the export, as the check reads it off src/from_cubics.rt, of any call (proofs/Calls), its rows and numbers by name (specs/Calls): nothing
-- is asked of a caller; the contract IS the entry's promise for what the caller gave; the report shows, field by field, what the definition gives; what is
-- given fixes the report and every lent row; and of the lent rows their lengths alone fix the report and what is written. Assumes nothing.
use mathlib.Core.Path.{◌≡◌}
use Rattle.cubics.specs.Determine.{Same}
use Rattle.exports.specs.Calls.FromCubics.{CubicIs, CubicShows, CubicAlike, cubic_defined, cubic_written}
use Rattle.exports.proofs.Calls.FromCubics.{CubicCall, cubic_given, cubic_left}
use Rattle.exports.proofs.Laws.FromCubics as Laws
use Rattle.exports.proofs.from_cubics.fontcrunch_from_cubics.Reads as cubic

-- ---- fontcrunch_from_cubics

pub cubic_asks_nothing : (κs : _) (a : _) → cubic.Pre κs a
cubic_asks_nothing κs a = tt

pub cubic_is : (c : CubicCall) → CubicIs (cubic_given c) (cubic_left c)
cubic_is c = record { shown = c.said }

pub cubic_shows : (c : CubicCall) → CubicShows (cubic_defined (cubic_given c)) c.r
cubic_shows c = Laws.cubic_shows (cubic_is c)

pub cubic_leaves : (c c' : CubicCall) → cubic_given c ≡ cubic_given c' → cubic_left c ≡ cubic_left c'
cubic_leaves c c' e = Laws.cubic_left_lem (cubic_is c) (cubic_is c') e

pub cubic_says : (c c' : CubicCall) → CubicAlike (cubic_given c) (cubic_given c') →
    Same c.r c'.r (cubic_written (cubic_left c)) (cubic_written (cubic_left c'))
cubic_says c c' e = Laws.cubic_equal (cubic_is c) (cubic_is c') e
