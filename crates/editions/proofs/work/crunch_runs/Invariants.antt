-- `editions::work::crunch_runs` meets its contract: the law of proofs/Going.antt for each edition. Assumes nothing.
use Prim.Native.Nat.{◌-◌}
use lib.ListN.{length}
use Rattle.editions.specs.Editions.{settings_a, settings_b}
use Rattle.editions.proofs.Going.{Running}
use Rattle.editions.proofs.work.crunch_runs.Given as goal

abbrev pub invariant-loop-k : goal.invariant-loop-k
invariant-loop-k l =
    Running l.xs l.ys l.flags l.stops (settings_a l.order) l.initial.samples l.initial.breaks l.initial.answers_a l.initial.links_a l.initial.points_a l.initial.c.a l.samples l.breaks l.answers_a l.links_a l.points_a l.c.a l.k
    × Running l.xs l.ys l.flags l.stops (settings_b l.order) l.initial.samples l.initial.breaks l.initial.answers_b l.initial.links_b l.initial.points_b l.initial.c.b l.samples l.breaks l.answers_b l.links_b l.points_b l.c.b l.k
