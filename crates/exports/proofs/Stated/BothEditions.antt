-- The contract of the export, as the check reads it off src/both_editions.rt, of any call (proofs/Calls), its rows and numbers by name (specs/Calls): nothing
-- is asked of a caller; the contract IS the entry's promise for what the caller gave; both reports show, field by field, what the definition gives; what is
-- given fixes both reports and every lent row; and of the lent rows their lengths alone fix the reports, what is written and the scratch rows. Assumes
-- nothing.
use mathlib.Core.Path.{◌≡◌}
use Rattle.exports.specs.Determine.{EqualReports}
use Rattle.exports.specs.Calls.BothEditions.{EditionsIs, EditionsShow, EditionsAlike, editions_after}
use Rattle.exports.proofs.Calls.BothEditions.{EditionsCall, editions_given, editions_left}
use Rattle.exports.proofs.Laws.BothEditions as Laws
use Rattle.exports.proofs.both_editions.fontcrunch_editions.Reads as editions

-- ---- fontcrunch_editions

pub editions_asks_nothing : (κs : _) (a : _) → editions.Pre κs a
editions_asks_nothing κs a = tt

pub editions_is : (c : EditionsCall) → EditionsIs (editions_given c) (editions_left c)
editions_is c = record { shown = c.said }

pub editions_show : (c : EditionsCall) → EditionsShow (editions_given c) c.r
editions_show c = Laws.editions_show (editions_is c)

pub editions_leaves : (c c' : EditionsCall) → editions_given c ≡ editions_given c' → editions_left c ≡ editions_left c'
editions_leaves c c' e = Laws.editions_left_lem (editions_is c) (editions_is c') e

pub editions_says : (c c' : EditionsCall) → EditionsAlike (editions_given c) (editions_given c') →
    EqualReports c.r c'.r (editions_after (editions_left c)) (editions_after (editions_left c'))
editions_says c c' e = Laws.editions_equal (editions_is c) (editions_is c') e
