-- `clean::copy_coordinates` meets its contract. Assumes nothing.
use mathlib.Core.List.{map}
use lib.ListN.{take}
use Rattle.rows.proofs.Filled.{Filled}
use Rattle.clean.specs.Entry.{coordinate_in}
use Rattle.clean.proofs.copy_coordinates.Given as goal

abbrev pub invariant-loop-i : goal.invariant-loop-i
invariant-loop-i l = Filled (map (coordinate_in l.row) (take l.n l.numbers)) l.initial.out l.out l.i
