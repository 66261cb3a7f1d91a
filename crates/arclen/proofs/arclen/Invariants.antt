-- `arclen::arclen` meets its contract. The loop's invariant: what is left to walk from here is what was to be walked from the start.
-- Assumes nothing.
use Rattle.std.proofs.Common.{◌-◌, [], ◌∷◌, ◌≡◌}
use Rattle.float.specs.Numbers.{nought}
use Rattle.arclen.specs.Rk4.{walk}
use Rattle.arclen.specs.Arclen.{tenth, length_rates}
use Rattle.arclen.proofs.arclen.Given as goal

abbrev pub invariant-loop-i : goal.invariant-loop-i
invariant-loop-i l =
    walk (length_rates l.f) tenth 10 nought (nought ∷ []) ≡ walk (length_rates l.f) tenth (10 - l._i) l.t (l.y ∷ [])
