-- `samples::fill` meets its contract. The loop's invariant: what is left to fill from here is what was to be filled at entry. The measure is
-- the places left. Assumes nothing.
use Prim.Native.Nat.{◌-◌, ◌≤◌}
use mathlib.Core.Path.{◌≡◌}
use lib.ListN.{length, take}
use Rattle.samples.specs.Samples.{fill_to}
use Rattle.samples.proofs.fill.Given as goal

abbrev pub invariant-loop-x : goal.invariant-loop-x
invariant-loop-x l =
    (length l.row ≡ length l.initial.row) × (l.m ≤ length l.initial.row) × (fill_to (length l.initial.row) l.this l.limit (take l.n l.initial.row) l.ix l.last ≡ fill_to (length l.initial.row) l.this l.limit (take l.m l.row) l.x l.last)

abbrev pub decreases-loop-x : goal.decreases-loop-x
decreases-loop-x l = length l.row - l.m
