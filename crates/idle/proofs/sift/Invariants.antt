-- `idle::sift` meets its contract. Assumes nothing.
use lib.ListN.{length}
use Rattle.idle.specs.Idle.{beside_of}
use Rattle.idle.proofs.Sifting.{Sifting}
use Rattle.idle.proofs.sift.Given as goal

abbrev pub invariant-loop-i : goal.invariant-loop-i
invariant-loop-i l = Sifting (beside_of l.xs l.ys l.flags) (length l.flags) l.initial.kept l.initial.gone l.kept l.gone l.at l.i
