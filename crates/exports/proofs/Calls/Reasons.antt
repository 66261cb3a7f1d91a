-- Calls of fontcrunch_why as the contract has them, by name. Definitions only.
use Rattle.exports.specs.Calls.Reasons.{WhyGiven, WhyLeft}
use Rattle.exports.proofs.Calls.{Call}
use Rattle.exports.proofs.reasons.fontcrunch_why.Kinds as whyKinds
use Rattle.exports.proofs.reasons.fontcrunch_why.Reads as why

-- ---- fontcrunch_why

abbrev pub WhyCall : Type 0
WhyCall = Call 3 whyKinds.ps whyKinds.r why.Post

abbrev pub why_given : WhyCall → WhyGiven
why_given c = record {
  xs = c.a.0.now;
  ys = c.a.1.0.now;
  flags = c.a.1.1.0.now;
  k = c.a.1.1.1.0;
}

abbrev pub why_left : WhyCall → WhyLeft
why_left c = record {
  report = c.r;
}
