-- `quicksamples::fill_steps` meets its contract. The loop's invariant is `Stepping`. Assumes nothing.
use mathlib.Core.Path.{◌≡◌}
use lib.ListN.{length}
use Rattle.arclen.specs.Arclen.{arclen_functor_of}
use Rattle.quicksamples.proofs.Turns.{Stepping}
use Rattle.quicksamples.proofs.fill_steps.Given as goal

abbrev pub invariant-loop-i : goal.invariant-loop-i
invariant-loop-i l = (l.f ≡ arclen_functor_of l.q) × (length l.starts ≡ 11) × Stepping l.q l.initial.row l.initial.n l.initial.ix l.initial.last l.t l.starts l.row l.n l.ix l.last l.time l.i
