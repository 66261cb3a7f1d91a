-- Calls of fontcrunch_explicit as the contract has them, by name. Definitions only.
use Rattle.exports.specs.Calls.WrittenOut.{ExplicitGiven, ExplicitLeft}
use Rattle.exports.proofs.Calls.{Call}
use Rattle.exports.proofs.written_out.fontcrunch_explicit.Kinds as explicitKinds
use Rattle.exports.proofs.written_out.fontcrunch_explicit.Reads as explicit

-- ---- fontcrunch_explicit

abbrev pub ExplicitCall : Type 0
ExplicitCall = Call 6 explicitKinds.ps explicitKinds.r explicit.Post

abbrev pub explicit_given : ExplicitCall → ExplicitGiven
explicit_given c = record {
  xs = c.a.0.now;
  ys = c.a.1.0.now;
  flags = c.a.1.1.0.now;
  ox = c.a.1.1.1.0.now;
  oy = c.a.1.1.1.1.0.now;
  of = c.a.1.1.1.1.1.0.now;
}

abbrev pub explicit_left : ExplicitCall → ExplicitLeft
explicit_left c = record {
  report = c.r;
  ox = c.x.1.1.1.0.now;
  oy = c.x.1.1.1.1.0.now;
  of = c.x.1.1.1.1.1.0.now;
}
