-- Calls of fontcrunch_editions as the contract has them, by name. Definitions only.
use Rattle.exports.specs.Calls.BothEditions.{EditionsGiven, EditionsLeft}
use Rattle.exports.proofs.Calls.{Call}
use Rattle.exports.proofs.both_editions.fontcrunch_editions.Kinds as editionsKinds
use Rattle.exports.proofs.both_editions.fontcrunch_editions.Reads as editions

-- ---- fontcrunch_editions

abbrev pub EditionsCall : Type 0
EditionsCall = Call 17 editionsKinds.ps editionsKinds.r editions.Post

abbrev pub editions_given : EditionsCall → EditionsGiven
editions_given c = record {
  xs = c.a.0.now;
  ys = c.a.1.0.now;
  flags = c.a.1.1.0.now;
  penalty_a = c.a.1.1.1.0;
  penalty_b = c.a.1.1.1.1.0;
  whole_units = c.a.1.1.1.1.1.0;
  closed = c.a.1.1.1.1.1.1.0;
  samples = c.a.1.1.1.1.1.1.1.0.now;
  breaks = c.a.1.1.1.1.1.1.1.1.0.now;
  answers_a = c.a.1.1.1.1.1.1.1.1.1.0.now;
  links_a = c.a.1.1.1.1.1.1.1.1.1.1.0.now;
  points_a = c.a.1.1.1.1.1.1.1.1.1.1.1.0.now;
  ox_a = c.a.1.1.1.1.1.1.1.1.1.1.1.1.0.now;
  oy_a = c.a.1.1.1.1.1.1.1.1.1.1.1.1.1.0.now;
  of_a = c.a.1.1.1.1.1.1.1.1.1.1.1.1.1.1.0.now;
  answers_b = c.a.1.1.1.1.1.1.1.1.1.1.1.1.1.1.1.0.now;
  links_b = c.a.1.1.1.1.1.1.1.1.1.1.1.1.1.1.1.1.0.now;
  points_b = c.a.1.1.1.1.1.1.1.1.1.1.1.1.1.1.1.1.1.0.now;
  ox_b = c.a.1.1.1.1.1.1.1.1.1.1.1.1.1.1.1.1.1.1.0.now;
  oy_b = c.a.1.1.1.1.1.1.1.1.1.1.1.1.1.1.1.1.1.1.1.0.now;
  of_b = c.a.1.1.1.1.1.1.1.1.1.1.1.1.1.1.1.1.1.1.1.1.0.now;
}

abbrev pub editions_left : EditionsCall → EditionsLeft
editions_left c = record {
  report = c.r;
  samples = c.x.1.1.1.1.1.1.1.0.now;
  breaks = c.x.1.1.1.1.1.1.1.1.0.now;
  answers_a = c.x.1.1.1.1.1.1.1.1.1.0.now;
  links_a = c.x.1.1.1.1.1.1.1.1.1.1.0.now;
  points_a = c.x.1.1.1.1.1.1.1.1.1.1.1.0.now;
  ox_a = c.x.1.1.1.1.1.1.1.1.1.1.1.1.0.now;
  oy_a = c.x.1.1.1.1.1.1.1.1.1.1.1.1.1.0.now;
  of_a = c.x.1.1.1.1.1.1.1.1.1.1.1.1.1.1.0.now;
  answers_b = c.x.1.1.1.1.1.1.1.1.1.1.1.1.1.1.1.0.now;
  links_b = c.x.1.1.1.1.1.1.1.1.1.1.1.1.1.1.1.1.0.now;
  points_b = c.x.1.1.1.1.1.1.1.1.1.1.1.1.1.1.1.1.1.0.now;
  ox_b = c.x.1.1.1.1.1.1.1.1.1.1.1.1.1.1.1.1.1.1.0.now;
  oy_b = c.x.1.1.1.1.1.1.1.1.1.1.1.1.1.1.1.1.1.1.1.0.now;
  of_b = c.x.1.1.1.1.1.1.1.1.1.1.1.1.1.1.1.1.1.1.1.1.0.now;
}
