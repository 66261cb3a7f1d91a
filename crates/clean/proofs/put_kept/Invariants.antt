-- `clean::put_kept` meets its contract. Assumes nothing.
use mathlib.Core.List.{map}
use Rattle.rows.proofs.Filled.{Filled}
use Rattle.clean.specs.Clean.{up_from}
use Rattle.clean.specs.PutBack.{kept_spot}
use Rattle.clean.proofs.put_kept.Given as goal

abbrev pub invariant-loop-i : goal.invariant-loop-i
invariant-loop-i l = Filled (map kept_spot (up_from 0 l.kept)) l.initial.spots l.spots l.i
