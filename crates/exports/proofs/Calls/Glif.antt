-- Calls of fontcrunch_read_glif, fontcrunch_write_glif, fontcrunch_crunch_glif as the contracts have them, by name. Definitions only.
use Rattle.exports.specs.Calls.Glif.{ReadGlifGiven, ReadGlifLeft, WriteGlifGiven, WriteGlifLeft, CrunchGlifGiven, CrunchGlifLeft}
use Rattle.exports.proofs.Calls.{Call}
use Rattle.exports.proofs.glif_files.fontcrunch_read_glif.Kinds as readKinds
use Rattle.exports.proofs.glif_files.fontcrunch_read_glif.Reads as read
use Rattle.exports.proofs.glif_files.fontcrunch_write_glif.Kinds as writeKinds
use Rattle.exports.proofs.glif_files.fontcrunch_write_glif.Reads as write
use Rattle.exports.proofs.glif_files.fontcrunch_crunch_glif.Kinds as crunchKinds
use Rattle.exports.proofs.glif_files.fontcrunch_crunch_glif.Reads as crunch

-- ---- fontcrunch_read_glif

abbrev pub ReadGlifCall : Type 0
ReadGlifCall = Call 6 readKinds.ps readKinds.r read.Post

abbrev pub read_glif_given : ReadGlifCall → ReadGlifGiven
read_glif_given c = record {
  bytes = c.a.0.now;
  ends = c.a.1.0.now;
  xs = c.a.1.1.0.now;
  ys = c.a.1.1.1.0.now;
  flags = c.a.1.1.1.1.0.now;
  points = c.a.1.1.1.1.1.0.now;
}

abbrev pub read_glif_left : ReadGlifCall → ReadGlifLeft
read_glif_left c = record {
  report = c.r;
  ends = c.x.1.0.now;
  xs = c.x.1.1.0.now;
  ys = c.x.1.1.1.0.now;
  flags = c.x.1.1.1.1.0.now;
  points = c.x.1.1.1.1.1.0.now;
}

-- ---- fontcrunch_write_glif

abbrev pub WriteGlifCall : Type 0
WriteGlifCall = Call 6 writeKinds.ps writeKinds.r write.Post

abbrev pub write_glif_given : WriteGlifCall → WriteGlifGiven
write_glif_given c = record {
  bytes = c.a.0.now;
  ends = c.a.1.0.now;
  xs = c.a.1.1.0.now;
  ys = c.a.1.1.1.0.now;
  flags = c.a.1.1.1.1.0.now;
  out = c.a.1.1.1.1.1.0.now;
}

abbrev pub write_glif_left : WriteGlifCall → WriteGlifLeft
write_glif_left c = record {
  report = c.r;
  out = c.x.1.1.1.1.1.0.now;
}

-- ---- fontcrunch_crunch_glif

abbrev pub CrunchGlifCall : Type 0
CrunchGlifCall = Call 12 crunchKinds.ps crunchKinds.r crunch.Post

abbrev pub crunch_glif_given : CrunchGlifCall → CrunchGlifGiven
crunch_glif_given c = record {
  bytes = c.a.0.now;
  penalty = c.a.1.0;
  whole_units = c.a.1.1.0;
  closed = c.a.1.1.1.0;
  out = c.a.1.1.1.1.0.now;
  ends = c.a.1.1.1.1.1.0.now;
  xs = c.a.1.1.1.1.1.1.0.now;
  ys = c.a.1.1.1.1.1.1.1.0.now;
  flags = c.a.1.1.1.1.1.1.1.1.0.now;
  marks = c.a.1.1.1.1.1.1.1.1.1.0.now;
  samples = c.a.1.1.1.1.1.1.1.1.1.1.0.now;
  breaks = c.a.1.1.1.1.1.1.1.1.1.1.1.0.now;
  answers = c.a.1.1.1.1.1.1.1.1.1.1.1.1.0.now;
  links = c.a.1.1.1.1.1.1.1.1.1.1.1.1.1.0.now;
  points = c.a.1.1.1.1.1.1.1.1.1.1.1.1.1.1.0.now;
}

abbrev pub crunch_glif_left : CrunchGlifCall → CrunchGlifLeft
crunch_glif_left c = record {
  report = c.r;
  out = c.x.1.1.1.1.0.now;
  ends = c.x.1.1.1.1.1.0.now;
  xs = c.x.1.1.1.1.1.1.0.now;
  ys = c.x.1.1.1.1.1.1.1.0.now;
  flags = c.x.1.1.1.1.1.1.1.1.0.now;
  marks = c.x.1.1.1.1.1.1.1.1.1.0.now;
  samples = c.x.1.1.1.1.1.1.1.1.1.1.0.now;
  breaks = c.x.1.1.1.1.1.1.1.1.1.1.1.0.now;
  answers = c.x.1.1.1.1.1.1.1.1.1.1.1.1.0.now;
  links = c.x.1.1.1.1.1.1.1.1.1.1.1.1.1.0.now;
  points = c.x.1.1.1.1.1.1.1.1.1.1.1.1.1.1.0.now;
}
