-- `quicksamples::is_due` meets its contract. Assumes nothing.
use Rattle.std.proofs.Common.{◌≡◌, false, length}
use Rattle.quicksamples.specs.Tens.{NoneDue}
use Rattle.quicksamples.proofs.is_due.Given as goal

abbrev pub invariant-loop-i : goal.invariant-loop-i
invariant-loop-i l = (length l.starts ≡ 11) × (l.due ≡ false → NoneDue l.starts l.ix l.i)
