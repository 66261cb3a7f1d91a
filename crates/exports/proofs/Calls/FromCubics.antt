-- Calls of fontcrunch_from_cubics as the contract has them, by name. Definitions only.
use Rattle.exports.specs.Calls.FromCubics.{CubicGiven, CubicLeft}
use Rattle.exports.proofs.Calls.{Call}
use Rattle.exports.proofs.from_cubics.fontcrunch_from_cubics.Kinds as cubicKinds
use Rattle.exports.proofs.from_cubics.fontcrunch_from_cubics.Reads as cubic

-- ---- fontcrunch_from_cubics

abbrev pub CubicCall : Type 0
CubicCall = Call 6 cubicKinds.ps cubicKinds.r cubic.Post

abbrev pub cubic_given : CubicCall → CubicGiven
cubic_given c = record {
  xs = c.a.0.now;
  ys = c.a.1.0.now;
  flags = c.a.1.1.0.now;
  ox = c.a.1.1.1.0.now;
  oy = c.a.1.1.1.1.0.now;
  of = c.a.1.1.1.1.1.0.now;
}

abbrev pub cubic_left : CubicCall → CubicLeft
cubic_left c = record {
  report = c.r;
  ox = c.x.1.1.1.0.now;
  oy = c.x.1.1.1.1.0.now;
  of = c.x.1.1.1.1.1.0.now;
}
