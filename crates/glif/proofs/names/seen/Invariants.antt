-- `glif::names::seen` meets its contract. Assumes nothing.
use Rattle.std.proofs.Common.{◌≡◌}
use Rattle.glif.specs.Names.{seen_to}
use Rattle.glif.proofs.names.seen.Given as goal

abbrev pub invariant-loop-k : goal.invariant-loop-k
invariant-loop-k l = l.found ≡ seen_to l.bytes l.names l.from l.k l.p
