-- Calls of fontcrunch_drop_idle, fontcrunch_put_back_idle as the contracts have them, by name. Definitions only.
use Rattle.exports.specs.Calls.Cleaning.{CleanGiven, CleanLeft, PutGiven, PutLeft}
use Rattle.exports.proofs.Calls.{Call}
use Rattle.exports.proofs.idle_controls.fontcrunch_drop_idle.Kinds as dropKinds
use Rattle.exports.proofs.idle_controls.fontcrunch_drop_idle.Reads as drop
use Rattle.exports.proofs.idle_controls.fontcrunch_put_back_idle.Kinds as putKinds
use Rattle.exports.proofs.idle_controls.fontcrunch_put_back_idle.Reads as put

-- ---- fontcrunch_drop_idle

abbrev pub DropCall : Type 0
DropCall = Call 7 dropKinds.ps dropKinds.r drop.Post

abbrev pub drop_given : DropCall → CleanGiven
drop_given c = record {
  xs = c.a.0.now;
  ys = c.a.1.0.now;
  flags = c.a.1.1.0.now;
  ox = c.a.1.1.1.0.now;
  oy = c.a.1.1.1.1.0.now;
  of = c.a.1.1.1.1.1.0.now;
  list = c.a.1.1.1.1.1.1.0.now;
}

abbrev pub drop_left : DropCall → CleanLeft
drop_left c = record {
  report = c.r;
  ox = c.x.1.1.1.0.now;
  oy = c.x.1.1.1.1.0.now;
  of = c.x.1.1.1.1.1.0.now;
  list = c.x.1.1.1.1.1.1.0.now;
}

-- ---- fontcrunch_put_back_idle

abbrev pub PutIdleCall : Type 0
PutIdleCall = Call 7 putKinds.ps putKinds.r put.Post

abbrev pub put_idle_given : PutIdleCall → PutGiven
put_idle_given c = record {
  xs = c.a.0.now;
  ys = c.a.1.0.now;
  flags = c.a.1.1.0.now;
  list = c.a.1.1.1.0.now;
  ox = c.a.1.1.1.1.0.now;
  oy = c.a.1.1.1.1.1.0.now;
  of = c.a.1.1.1.1.1.1.0.now;
}

abbrev pub put_idle_left : PutIdleCall → PutLeft
put_idle_left c = record {
  report = c.r;
  ox = c.x.1.1.1.1.0.now;
  oy = c.x.1.1.1.1.1.0.now;
  of = c.x.1.1.1.1.1.1.0.now;
}
