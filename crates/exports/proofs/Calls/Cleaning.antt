-- Calls of fontcrunch_clean, fontcrunch_put_back as the contracts have them, by name. Definitions only.
use Rattle.exports.specs.Calls.Cleaning.{CleanGiven, CleanLeft, PutGiven, PutLeft}
use Rattle.exports.proofs.Calls.{Call}
use Rattle.exports.proofs.cleaning.fontcrunch_clean.Kinds as cleanKinds
use Rattle.exports.proofs.cleaning.fontcrunch_clean.Reads as clean
use Rattle.exports.proofs.cleaning.fontcrunch_put_back.Kinds as putKinds
use Rattle.exports.proofs.cleaning.fontcrunch_put_back.Reads as put

-- ---- fontcrunch_clean

abbrev pub CleanCall : Type 0
CleanCall = Call 7 cleanKinds.ps cleanKinds.r clean.Post

abbrev pub clean_given : CleanCall → CleanGiven
clean_given c = record {
  xs = c.a.0.now;
  ys = c.a.1.0.now;
  flags = c.a.1.1.0.now;
  ox = c.a.1.1.1.0.now;
  oy = c.a.1.1.1.1.0.now;
  of = c.a.1.1.1.1.1.0.now;
  list = c.a.1.1.1.1.1.1.0.now;
}

abbrev pub clean_left : CleanCall → CleanLeft
clean_left c = record {
  report = c.r;
  ox = c.x.1.1.1.0.now;
  oy = c.x.1.1.1.1.0.now;
  of = c.x.1.1.1.1.1.0.now;
  list = c.x.1.1.1.1.1.1.0.now;
}

-- ---- fontcrunch_put_back

abbrev pub PutCall : Type 0
PutCall = Call 7 putKinds.ps putKinds.r put.Post

abbrev pub put_given : PutCall → PutGiven
put_given c = record {
  xs = c.a.0.now;
  ys = c.a.1.0.now;
  flags = c.a.1.1.0.now;
  list = c.a.1.1.1.0.now;
  ox = c.a.1.1.1.1.0.now;
  oy = c.a.1.1.1.1.1.0.now;
  of = c.a.1.1.1.1.1.1.0.now;
}

abbrev pub put_left : PutCall → PutLeft
put_left c = record {
  report = c.r;
  ox = c.x.1.1.1.1.0.now;
  oy = c.x.1.1.1.1.1.0.now;
  of = c.x.1.1.1.1.1.1.0.now;
}
