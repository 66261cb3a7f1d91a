-- `quickmeasure::is_even_in_steps` meets its contract. The loop's invariant: the steps passed are even. Assumes nothing.
use mathlib.Core.Path.{◌≡◌}
use Rattle.arclen.specs.Arclen.{tenth}
use Rattle.quickarclen.specs.Stages.{time_at}
use Rattle.quickmeasure.specs.Ahead.{square_at, Even}
use Rattle.quickmeasure.proofs.is_even_in_steps.Given as goal

abbrev pub invariant-loop : goal.invariant-loop
invariant-loop l = (l.time ≡ time_at tenth l.counter) × (l.first ≡ square_at l.f l.time) × Even l.f l.counter
