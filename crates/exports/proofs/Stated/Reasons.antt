-- The contract of the export, as the check reads it off src/reasons.rt, of any call (proofs/Calls), its rows and numbers by name (specs/Calls): nothing is
-- asked of a caller; the contract IS the entry's promise for what the caller gave; the report shows, field by field, what the definition gives; and what is
-- given fixes the report. Assumes nothing.
use mathlib.Core.Path.{◌≡◌}
use Rattle.exports.specs.Calls.Reasons.{WhyIs, WhyShows, WhyAlike, why_defined}
use Rattle.exports.proofs.Calls.Reasons.{WhyCall, why_given, why_left}
use Rattle.exports.proofs.Laws.Reasons as Laws
use Rattle.exports.proofs.reasons.fontcrunch_why.Reads as why

-- ---- fontcrunch_why

pub why_asks_nothing : (κs : _) (a : _) → why.Pre κs a
why_asks_nothing κs a = tt

pub why_is : (c : WhyCall) → WhyIs (why_given c) (why_left c)
why_is c = record { shown = c.said }

pub why_shows : (c : WhyCall) → WhyShows (why_defined (why_given c)) c.r
why_shows c = Laws.why_shows (why_is c)

pub why_leaves : (c c' : WhyCall) → why_given c ≡ why_given c' → why_left c ≡ why_left c'
why_leaves c c' e = Laws.why_left_lem (why_is c) (why_is c') e

pub why_says : (c c' : WhyCall) → WhyAlike (why_given c) (why_given c') → c.r ≡ c'.r
why_says c c' e = Laws.why_equal (why_is c) (why_is c') e
