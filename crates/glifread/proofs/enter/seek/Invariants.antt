-- `glifread::enter::seek` meets its contract. Assumes nothing.
use Rattle.std.proofs.Common.{◌-◌, ◌≤◌, ◌≡◌, max}
use Rattle.glifread.specs.Enter.{seek_from}
use Rattle.glifread.proofs.enter.seek.Given as goal

abbrev pub invariant-loop-i : goal.invariant-loop-i
invariant-loop-i l =
    (l.i ≤ max l.from l.to) × (seek_from l.first l.points (l.to - l.from) l.from ≡ seek_from l.first l.points (l.to - l.i) l.i)
