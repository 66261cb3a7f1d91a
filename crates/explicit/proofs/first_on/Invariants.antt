-- `explicit::first_on` meets its contract. The loop's invariant: no place before i is on-curve. Assumes nothing.
use Prim.Native.Nat.{◌+◌, ◌≤◌}
use mathlib.Core.Path.{◌≡◌}
use lib.ListN.{length, drop}
use Rattle.explicit.specs.Explicit.{first_on}
use Rattle.explicit.proofs.first_on.Given as goal

abbrev pub invariant-loop-i : goal.invariant-loop-i
invariant-loop-i l = (l.i ≤ length l.flags) × (l.i + first_on (drop l.i l.flags) ≡ first_on l.flags)
