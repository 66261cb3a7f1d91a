-- `quicksamples::sample_run` meets its contract. The loop's invariant is `Running`. Assumes nothing.
use Rattle.samples.specs.Samples.{quads_of}
use Rattle.samples.proofs.Turns.{Running}
use Rattle.quicksamples.proofs.sample_run.Given as goal

abbrev pub invariant-loop : goal.invariant-loop
invariant-loop l = Running l.xs l.ys l.flags (quads_of l.xs l.ys l.flags l.first l.count) l.count l.initial.row l.row l.q l.w l.a l.counter
