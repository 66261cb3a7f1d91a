-- The contracts of the exports, as the check reads them off src/glyph.rt, of any call (proofs/Calls), its rows and numbers by name (specs/Calls): nothing is
-- asked of a caller; each contract IS the entry's promise for what the caller gave; the report shows, field by field, what the definition gives; what is given
-- fixes the report and every lent row; and of the lent rows their lengths alone fix the report and what is written. Assumes nothing.
use mathlib.Core.Path.{◌≡◌}
use Rattle.glyfread.specs.Determine as Reading
use Rattle.glyfwrite.specs.Determine as Writing
use Rattle.glyphs.specs.Determine as Crunching
use Rattle.exports.specs.Calls.Glyph.{ReadGlyphIs, ReadGlyphShows, ReadGlyphAlike, read_glyph_defined, read_glyph_rows}
use Rattle.exports.specs.Calls.Glyph.{WriteGlyphIs, GlyphBytesShow, WriteGlyphAlike, write_glyph_defined, write_glyph_row}
use Rattle.exports.specs.Calls.Glyph.{CrunchGlyphIs, CrunchGlyphAlike, crunch_glyph_defined, crunch_glyph_rows}
use Rattle.exports.proofs.Calls.Glyph.{ReadGlyphCall, read_glyph_given, read_glyph_left, WriteGlyphCall, write_glyph_given, write_glyph_left, CrunchGlyphCall, crunch_glyph_given, crunch_glyph_left}
use Rattle.exports.proofs.Laws.Glyph as Laws
use Rattle.exports.proofs.glyph.fontcrunch_read_glyph.Reads as read
use Rattle.exports.proofs.glyph.fontcrunch_write_glyph.Reads as write
use Rattle.exports.proofs.glyph.fontcrunch_crunch_glyph.Reads as crunch

-- ---- fontcrunch_read_glyph

pub read_asks_nothing : (κs : _) (a : _) → read.Pre κs a
read_asks_nothing κs a = tt

pub read_is : (c : ReadGlyphCall) → ReadGlyphIs (read_glyph_given c) (read_glyph_left c)
read_is c = record { shown = c.said }

pub read_shows : (c : ReadGlyphCall) → ReadGlyphShows (read_glyph_defined (read_glyph_given c)) c.r
read_shows c = Laws.read_shows (read_is c)

pub read_leaves : (c c' : ReadGlyphCall) → read_glyph_given c ≡ read_glyph_given c' → read_glyph_left c ≡ read_glyph_left c'
read_leaves c c' e = Laws.read_left (read_is c) (read_is c') e

pub read_says : (c c' : ReadGlyphCall) → ReadGlyphAlike (read_glyph_given c) (read_glyph_given c') →
    Reading.Alike c.r c'.r (read_glyph_rows (read_glyph_given c) (read_glyph_left c)) (read_glyph_rows (read_glyph_given c') (read_glyph_left c'))
read_says c c' e = Laws.read_equal (read_is c) (read_is c') e

-- ---- fontcrunch_write_glyph

pub write_asks_nothing : (κs : _) (a : _) → write.Pre κs a
write_asks_nothing κs a = tt

pub write_is : (c : WriteGlyphCall) → WriteGlyphIs (write_glyph_given c) (write_glyph_left c)
write_is c = record {
  shown = record {
    answer = c.said.answer;
    is = c.said.is;
    promise = record { answer = c.said.promise.answer; left = c.said.promise.left };
  };
}

pub write_shows : (c : WriteGlyphCall) → GlyphBytesShow (write_glyph_defined (write_glyph_given c)) c.r
write_shows c = Laws.write_shows (write_is c)

pub write_leaves : (c c' : WriteGlyphCall) → write_glyph_given c ≡ write_glyph_given c' → write_glyph_left c ≡ write_glyph_left c'
write_leaves c c' e = Laws.write_left (write_is c) (write_is c') e

pub write_says : (c c' : WriteGlyphCall) → WriteGlyphAlike (write_glyph_given c) (write_glyph_given c') →
    Writing.Alike c.r c'.r (write_glyph_row (write_glyph_given c) (write_glyph_left c)) (write_glyph_row (write_glyph_given c') (write_glyph_left c'))
write_says c c' e = Laws.write_equal (write_is c) (write_is c') e

-- ---- fontcrunch_crunch_glyph

pub crunch_asks_nothing : (κs : _) (a : _) → crunch.Pre κs a
crunch_asks_nothing κs a = tt

pub crunch_is : (c : CrunchGlyphCall) → CrunchGlyphIs (crunch_glyph_given c) (crunch_glyph_left c)
crunch_is c = record { shown = c.said }

pub crunch_shows : (c : CrunchGlyphCall) → GlyphBytesShow (crunch_glyph_defined (crunch_glyph_given c)) c.r
crunch_shows c = Laws.crunch_shows (crunch_is c)

pub crunch_leaves : (c c' : CrunchGlyphCall) → crunch_glyph_given c ≡ crunch_glyph_given c' → crunch_glyph_left c ≡ crunch_glyph_left c'
crunch_leaves c c' e = Laws.crunch_left_lem (crunch_is c) (crunch_is c') e

pub crunch_says : (c c' : CrunchGlyphCall) → CrunchGlyphAlike (crunch_glyph_given c) (crunch_glyph_given c') →
    Crunching.Alike c.r c'.r (crunch_glyph_rows (crunch_glyph_given c) (crunch_glyph_left c)) (crunch_glyph_rows (crunch_glyph_given c') (crunch_glyph_left c'))
crunch_says c c' e = Laws.crunch_equal (crunch_is c) (crunch_is c') e
