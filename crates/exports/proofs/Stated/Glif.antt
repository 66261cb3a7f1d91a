-- The contracts of the exports, as the check reads them off src/glif_files.rt, of any call (proofs/Calls), its rows and numbers by name (specs/Calls): nothing is
-- asked of a caller; each contract IS the entry's promise for what the caller gave; the report shows, field by field, what the definition answers; what is given fixes the report and every lent row; and of the lent rows
-- their lengths alone fix the report and what is written. Assumes nothing.
use mathlib.Core.Path.{◌≡◌}
use Rattle.glifread.specs.Determine as Reading
use Rattle.glifwrite.specs.Determine as Writing
use Rattle.glifs.specs.Determine as Crunching
use Rattle.exports.specs.Calls.Glif.{ReadGlifIs, ReadGlifShows, ReadGlifAlike, read_glif_defined, read_glif_rows}
use Rattle.exports.specs.Calls.Glif.{WriteGlifIs, GlifBytesShow, WriteGlifAlike, write_glif_defined, write_glif_rows, write_glif_row}
use Rattle.exports.specs.Calls.Glif.{CrunchGlifIs, CrunchGlifAlike, crunch_glif_defined, crunch_glif_rows}
use Rattle.exports.proofs.Calls.Glif.{ReadGlifCall, read_glif_given, read_glif_left, WriteGlifCall, write_glif_given, write_glif_left, CrunchGlifCall, crunch_glif_given, crunch_glif_left}
use Rattle.exports.proofs.Laws.Glif as Laws
use Rattle.exports.proofs.glif_files.fontcrunch_read_glif.Reads as read
use Rattle.exports.proofs.glif_files.fontcrunch_write_glif.Reads as write
use Rattle.exports.proofs.glif_files.fontcrunch_crunch_glif.Reads as crunch

-- ---- fontcrunch_read_glif

pub read_asks_nothing : (κs : _) (a : _) → read.Pre κs a
read_asks_nothing κs a = tt

pub read_is : (c : ReadGlifCall) → ReadGlifIs (read_glif_given c) (read_glif_left c)
read_is c = record { shown = c.said }

pub read_shows : (c : ReadGlifCall) → ReadGlifShows (read_glif_defined (read_glif_given c)) c.r
read_shows c = Laws.read_shows (read_is c)

pub read_leaves : (c c' : ReadGlifCall) → read_glif_given c ≡ read_glif_given c' → read_glif_left c ≡ read_glif_left c'
read_leaves c c' e = Laws.read_left (read_is c) (read_is c') e

pub read_says : (c c' : ReadGlifCall) → ReadGlifAlike (read_glif_given c) (read_glif_given c') →
    Reading.Alike c.r c'.r (read_glif_rows (read_glif_given c) (read_glif_left c)) (read_glif_rows (read_glif_given c') (read_glif_left c'))
read_says c c' e = Laws.read_equal (read_is c) (read_is c') e

-- ---- fontcrunch_write_glif

pub write_asks_nothing : (κs : _) (a : _) → write.Pre κs a
write_asks_nothing κs a = tt

pub write_is : (c : WriteGlifCall) → WriteGlifIs (write_glif_given c) (write_glif_left c)
write_is c = record { shown = c.said }

pub write_shows : (c : WriteGlifCall) → GlifBytesShow (write_glif_defined (write_glif_given c)) c.r
write_shows c = Laws.write_shows (write_is c)

pub write_leaves : (c c' : WriteGlifCall) → write_glif_given c ≡ write_glif_given c' → write_glif_left c ≡ write_glif_left c'
write_leaves c c' e = Laws.write_left (write_is c) (write_is c') e

pub write_says : (c c' : WriteGlifCall) → WriteGlifAlike (write_glif_given c) (write_glif_given c') →
    Writing.Alike (write_glif_given c).bytes (write_glif_rows (write_glif_given c)) c.r c'.r (write_glif_row (write_glif_given c) (write_glif_left c)) (write_glif_row (write_glif_given c') (write_glif_left c'))
write_says c c' e = Laws.write_equal (write_is c) (write_is c') e

-- ---- fontcrunch_crunch_glif

pub crunch_asks_nothing : (κs : _) (a : _) → crunch.Pre κs a
crunch_asks_nothing κs a = tt

pub crunch_is : (c : CrunchGlifCall) → CrunchGlifIs (crunch_glif_given c) (crunch_glif_left c)
crunch_is c = record { shown = c.said }

pub crunch_shows : (c : CrunchGlifCall) → GlifBytesShow (crunch_glif_defined (crunch_glif_given c)) c.r
crunch_shows c = Laws.crunch_shows (crunch_is c)

pub crunch_leaves : (c c' : CrunchGlifCall) → crunch_glif_given c ≡ crunch_glif_given c' → crunch_glif_left c ≡ crunch_glif_left c'
crunch_leaves c c' e = Laws.crunch_left_lem (crunch_is c) (crunch_is c') e

pub crunch_says : (c c' : CrunchGlifCall) → CrunchGlifAlike (crunch_glif_given c) (crunch_glif_given c') →
    Crunching.Alike (crunch_glif_given c).bytes c.r c'.r (crunch_glif_rows (crunch_glif_given c) (crunch_glif_left c)) (crunch_glif_rows (crunch_glif_given c') (crunch_glif_left c'))
crunch_says c c' e = Laws.crunch_equal (crunch_is c) (crunch_is c') e
