-- The contracts of the exports, as the check reads them off src/cleaning.rt, of any call (proofs/Calls), its rows and numbers by name (specs/Calls): nothing
-- is asked of a caller; each contract IS the entry's promise for what the caller gave; the report shows, field by field, what the definition gives; what is
-- given fixes the report and every lent row; and of the lent rows their lengths alone fix the report and what is written. Assumes nothing.
use mathlib.Core.Path.{◌≡◌}
use Rattle.clean.specs.Determine.{Same}
use Rattle.exports.specs.Calls.Cleaning.{CleanIs, CleanShows, CleanAlike, clean_defined, clean_written}
use Rattle.exports.specs.Calls.Cleaning.{PutIs, PutShows, PutAlike, put_defined, put_written}
use Rattle.exports.proofs.Calls.Cleaning.{CleanCall, clean_given, clean_left, PutCall, put_given, put_left}
use Rattle.exports.proofs.Laws.Cleaning as Laws
use Rattle.exports.proofs.cleaning.fontcrunch_clean.Reads as clean
use Rattle.exports.proofs.cleaning.fontcrunch_put_back.Reads as put

-- ---- fontcrunch_clean

pub clean_asks_nothing : (κs : _) (a : _) → clean.Pre κs a
clean_asks_nothing κs a = tt

pub clean_is : (c : CleanCall) → CleanIs (clean_given c) (clean_left c)
clean_is c = record { shown = c.said }

pub clean_shows : (c : CleanCall) → CleanShows (clean_defined (clean_given c)) c.r
clean_shows c = Laws.clean_shows (clean_is c)

pub clean_leaves : (c c' : CleanCall) → clean_given c ≡ clean_given c' → clean_left c ≡ clean_left c'
clean_leaves c c' e = Laws.clean_left_lem (clean_is c) (clean_is c') e

pub clean_says : (c c' : CleanCall) → CleanAlike (clean_given c) (clean_given c') →
    Same c.r c'.r (clean_written (clean_left c)) (clean_written (clean_left c'))
clean_says c c' e = Laws.clean_equal (clean_is c) (clean_is c') e

-- ---- fontcrunch_put_back

pub put_asks_nothing : (κs : _) (a : _) → put.Pre κs a
put_asks_nothing κs a = tt

pub put_is : (c : PutCall) → PutIs (put_given c) (put_left c)
put_is c = record { shown = c.said }

pub put_shows : (c : PutCall) → PutShows (put_defined (put_given c)) c.r
put_shows c = Laws.put_shows (put_is c)

pub put_leaves : (c c' : PutCall) → put_given c ≡ put_given c' → put_left c ≡ put_left c'
put_leaves c c' e = Laws.put_left_lem (put_is c) (put_is c') e

pub put_says : (c c' : PutCall) → PutAlike (put_given c) (put_given c') →
    Same c.r c'.r (put_written (put_left c)) (put_written (put_left c'))
put_says c c' e = Laws.put_equal (put_is c) (put_is c') e
