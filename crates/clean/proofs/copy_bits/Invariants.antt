-- `clean::copy_bits` meets its contract. Assumes nothing.
use mathlib.Core.List.{map}
use lib.ListN.{take}
use Rattle.rows.proofs.Filled.{Filled}
use Rattle.clean.specs.Entry.{spot_bit}
use Rattle.clean.proofs.copy_bits.Given as goal

abbrev pub invariant-loop-i : goal.invariant-loop-i
invariant-loop-i l = Filled (map (spot_bit l.row) (take l.n l.spots)) l.initial.out l.out l.i
