-- `glifwrite::put::put_range` meets its contract. Assumes nothing.
use Rattle.std.proofs.Common.{◌≡◌}
use Rattle.glifwrite.specs.Puts.{put, put_range}
use Rattle.glifwrite.proofs.put.put_range.Given as goal

abbrev pub invariant-loop-k : goal.invariant-loop-k
invariant-loop-k l = put l.a l.out ≡ put_range l.bytes l.from l.k (put l.initial.a l.initial.out)
