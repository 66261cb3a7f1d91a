-- One buffer keeps the line under way.
use Rattle.fontcrunch_cli.specs.Stream.{Keeps}
use Rattle.fontcrunch_cli.proofs.serve.Given as goal

abbrev pub invariant-loop : goal.invariant-loop
invariant-loop g l = Keeps l.line l.used
