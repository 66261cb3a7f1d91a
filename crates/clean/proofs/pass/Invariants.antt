-- `clean::pass` meets its contract, by the laws of proofs/Passing.antt. Assumes nothing.
use lib.ListN.{length}
use Rattle.clean.specs.Clean.{on_place, same_place}
use Rattle.clean.proofs.Passing.{Passing}
use Rattle.clean.proofs.pass.Given as goal

abbrev pub invariant-loop-i : goal.invariant-loop-i
invariant-loop-i l = Passing (on_place l.flags) (same_place l.xs l.ys) (length l.flags) l.initial.kept l.initial.gone l.kept l.gone l.at l.i
