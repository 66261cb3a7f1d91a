-- The contracts of the exports, as the check reads them off src/idle_controls.rt, of any call (proofs/Calls), its rows and numbers by name (specs/Calls):
-- nothing is asked of a caller; each contract IS the entry's promise for what the caller gave; the report shows, field by field, what the definition gives;
-- what is given fixes the report and every lent row; and of the lent rows their lengths alone fix the report and what is written. Assumes nothing.
use mathlib.Core.Path.{◌≡◌}
use Rattle.clean.specs.Determine.{Same}
use Rattle.idle.specs.Determine.{counted}
use Rattle.exports.specs.Calls.Cleaning.{CleanShows, CleanAlike, clean_written, PutShows, PutAlike, put_contour, put_defined, put_written}
use Rattle.exports.specs.Calls.IdleControls.{DropIs, drop_defined, PutIdleIs}
use Rattle.exports.proofs.Calls.IdleControls.{DropCall, drop_given, drop_left, PutIdleCall, put_idle_given, put_idle_left}
use Rattle.exports.proofs.Laws.Cleaning as Laws
use Rattle.exports.proofs.Laws.IdleControls.{fields, put_fields, counts, put_counts}
use Rattle.exports.proofs.idle_controls.fontcrunch_drop_idle.Reads as drop
use Rattle.exports.proofs.idle_controls.fontcrunch_put_back_idle.Reads as put

-- ---- fontcrunch_drop_idle

pub drop_asks_nothing : (κs : _) (a : _) → drop.Pre κs a
drop_asks_nothing κs a = tt

pub drop_is : (c : DropCall) → DropIs (drop_given c) (drop_left c)
drop_is c = record { shown = c.said }

pub drop_shows : (c : DropCall) → CleanShows (drop_defined (drop_given c)) c.r
drop_shows c = Laws.sift_shows fields (drop_is c)

pub drop_leaves : (c c' : DropCall) → drop_given c ≡ drop_given c' → drop_left c ≡ drop_left c'
drop_leaves c c' e = Laws.sift_left (drop_is c) (drop_is c') e

pub drop_says : (c c' : DropCall) → CleanAlike (drop_given c) (drop_given c') →
    Same c.r c'.r (clean_written (drop_left c)) (clean_written (drop_left c'))
drop_says c c' e = Laws.sift_equal counts (drop_is c) (drop_is c') e

-- ---- fontcrunch_put_back_idle

pub put_idle_asks_nothing : (κs : _) (a : _) → put.Pre κs a
put_idle_asks_nothing κs a = tt

pub put_idle_is : (c : PutIdleCall) → PutIdleIs (put_idle_given c) (put_idle_left c)
put_idle_is c = record { shown = c.said }

pub put_idle_shows : (c : PutIdleCall) → PutShows (put_defined (put_idle_given c)) c.r
put_idle_shows c = Laws.restore_shows put_fields (put_idle_is c)

pub put_idle_leaves : (c c' : PutIdleCall) → put_idle_given c ≡ put_idle_given c' → put_idle_left c ≡ put_idle_left c'
put_idle_leaves c c' e = Laws.restore_left (put_idle_is c) (put_idle_is c') e

pub put_idle_says : (c c' : PutIdleCall) → PutAlike (put_idle_given c) (put_idle_given c') →
    Same c.r c'.r (put_written (put_idle_left c)) (put_written (put_idle_left c'))
put_idle_says c c' e = Laws.restore_equal put_counts (counted (put_contour (put_idle_given c)) (put_idle_given c).list) (put_idle_is c) (put_idle_is c') e
