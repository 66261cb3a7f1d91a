-- `quickarclen::fill_squares` meets its contract. Assumes nothing.
use Rattle.std.proofs.Common.{◌*◌, ◌≡◌}
use Rattle.quickarclen.specs.Stages.{time_from, Squares}
use Rattle.quickarclen.proofs.fill_squares.Given as goal

abbrev pub invariant-loop-i : goal.invariant-loop-i
invariant-loop-i l = (l.time ≡ time_from l.h l.t l.i) × Squares l.f l.h l.t l.w (2 * l.i)
