-- The contract of the export, as the check reads it off src/written_out.rt, of any call (proofs/Calls), its rows and numbers by name (specs/Calls): nothing
-- is asked of a caller; the contract IS the entry's promise for what the caller gave; the report shows, field by field, what the definition gives; what is
-- given fixes the report and every lent row; and of the lent rows their lengths alone fix the report and what is written. Assumes nothing.
use mathlib.Core.Path.{◌≡◌}
use Rattle.explicit.specs.Determine.{Same}
use Rattle.exports.specs.Calls.WrittenOut.{ExplicitIs, ExplicitShows, ExplicitAlike, explicit_defined, explicit_written}
use Rattle.exports.proofs.Calls.WrittenOut.{ExplicitCall, explicit_given, explicit_left}
use Rattle.exports.proofs.Laws.WrittenOut as Laws
use Rattle.exports.proofs.written_out.fontcrunch_explicit.Reads as explicit

-- ---- fontcrunch_explicit

pub explicit_asks_nothing : (κs : _) (a : _) → explicit.Pre κs a
explicit_asks_nothing κs a = tt

pub explicit_is : (c : ExplicitCall) → ExplicitIs (explicit_given c) (explicit_left c)
explicit_is c = record { shown = c.said }

pub explicit_shows : (c : ExplicitCall) → ExplicitShows (explicit_defined (explicit_given c)) c.r
explicit_shows c = Laws.explicit_shows (explicit_is c)

pub explicit_leaves : (c c' : ExplicitCall) → explicit_given c ≡ explicit_given c' → explicit_left c ≡ explicit_left c'
explicit_leaves c c' e = Laws.explicit_left_lem (explicit_is c) (explicit_is c') e

pub explicit_says : (c c' : ExplicitCall) → ExplicitAlike (explicit_given c) (explicit_given c') →
    Same c.r c'.r (explicit_written (explicit_left c)) (explicit_written (explicit_left c'))
explicit_says c c' e = Laws.explicit_equal (explicit_is c) (explicit_is c') e
