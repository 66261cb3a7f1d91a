-- Calls of fontcrunch_read_glyph, fontcrunch_write_glyph, fontcrunch_crunch_glyph as the contracts have them, by name. Definitions only.
use Rattle.exports.specs.Calls.Glyph.{ReadGlyphGiven, ReadGlyphLeft, WriteGlyphGiven, WriteGlyphLeft, CrunchGlyphGiven, CrunchGlyphLeft}
use Rattle.exports.proofs.Calls.{Call}
use Rattle.exports.proofs.glyph.fontcrunch_read_glyph.Kinds as readKinds
use Rattle.exports.proofs.glyph.fontcrunch_read_glyph.Reads as read
use Rattle.exports.proofs.glyph.fontcrunch_write_glyph.Kinds as writeKinds
use Rattle.exports.proofs.glyph.fontcrunch_write_glyph.Reads as write
use Rattle.exports.proofs.glyph.fontcrunch_crunch_glyph.Kinds as crunchKinds
use Rattle.exports.proofs.glyph.fontcrunch_crunch_glyph.Reads as crunch

-- ---- fontcrunch_read_glyph

abbrev pub ReadGlyphCall : Type 0
ReadGlyphCall = Call 6 readKinds.ps readKinds.r read.Post

abbrev pub read_glyph_given : ReadGlyphCall → ReadGlyphGiven
read_glyph_given c = record {
  bytes = c.a.0.now;
  ends = c.a.1.0.now;
  xs = c.a.1.1.0.now;
  ys = c.a.1.1.1.0.now;
  flags = c.a.1.1.1.1.0.now;
  instructions = c.a.1.1.1.1.1.0.now;
}

abbrev pub read_glyph_left : ReadGlyphCall → ReadGlyphLeft
read_glyph_left c = record {
  report = c.r;
  ends = c.x.1.0.now;
  xs = c.x.1.1.0.now;
  ys = c.x.1.1.1.0.now;
  flags = c.x.1.1.1.1.0.now;
  instructions = c.x.1.1.1.1.1.0.now;
}

-- ---- fontcrunch_write_glyph

abbrev pub WriteGlyphCall : Type 0
WriteGlyphCall = Call 6 writeKinds.ps writeKinds.r write.Post

abbrev pub write_glyph_given : WriteGlyphCall → WriteGlyphGiven
write_glyph_given c = record {
  ends = c.a.0.now;
  xs = c.a.1.0.now;
  ys = c.a.1.1.0.now;
  flags = c.a.1.1.1.0.now;
  instructions = c.a.1.1.1.1.0.now;
  out = c.a.1.1.1.1.1.0.now;
}

abbrev pub write_glyph_left : WriteGlyphCall → WriteGlyphLeft
write_glyph_left c = record {
  report = c.r;
  out = c.x.1.1.1.1.1.0.now;
}

-- ---- fontcrunch_crunch_glyph

abbrev pub CrunchGlyphCall : Type 0
CrunchGlyphCall = Call 12 crunchKinds.ps crunchKinds.r crunch.Post

abbrev pub crunch_glyph_given : CrunchGlyphCall → CrunchGlyphGiven
crunch_glyph_given c = record {
  bytes = c.a.0.now;
  penalty = c.a.1.0;
  whole_units = c.a.1.1.0;
  closed = c.a.1.1.1.0;
  out = c.a.1.1.1.1.0.now;
  ends = c.a.1.1.1.1.1.0.now;
  xs = c.a.1.1.1.1.1.1.0.now;
  ys = c.a.1.1.1.1.1.1.1.0.now;
  flags = c.a.1.1.1.1.1.1.1.1.0.now;
  instructions = c.a.1.1.1.1.1.1.1.1.1.0.now;
  samples = c.a.1.1.1.1.1.1.1.1.1.1.0.now;
  breaks = c.a.1.1.1.1.1.1.1.1.1.1.1.0.now;
  answers = c.a.1.1.1.1.1.1.1.1.1.1.1.1.0.now;
  links = c.a.1.1.1.1.1.1.1.1.1.1.1.1.1.0.now;
  points = c.a.1.1.1.1.1.1.1.1.1.1.1.1.1.1.0.now;
}

abbrev pub crunch_glyph_left : CrunchGlyphCall → CrunchGlyphLeft
crunch_glyph_left c = record {
  report = c.r;
  out = c.x.1.1.1.1.0.now;
  ends = c.x.1.1.1.1.1.0.now;
  xs = c.x.1.1.1.1.1.1.0.now;
  ys = c.x.1.1.1.1.1.1.1.0.now;
  flags = c.x.1.1.1.1.1.1.1.1.0.now;
  instructions = c.x.1.1.1.1.1.1.1.1.1.0.now;
  samples = c.x.1.1.1.1.1.1.1.1.1.1.0.now;
  breaks = c.x.1.1.1.1.1.1.1.1.1.1.1.0.now;
  answers = c.x.1.1.1.1.1.1.1.1.1.1.1.1.0.now;
  links = c.x.1.1.1.1.1.1.1.1.1.1.1.1.1.0.now;
  points = c.x.1.1.1.1.1.1.1.1.1.1.1.1.1.1.0.now;
}
