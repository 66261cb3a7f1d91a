-- `glifwrite::contours::put_contour` meets its contract. Assumes nothing.
use Rattle.std.proofs.Common.{◌≡◌}
use Rattle.glifwrite.specs.Puts.{put}
use Rattle.glifwrite.specs.Contours.{put_to}
use Rattle.glifwrite.proofs.contours.put_contour.Given as goal

abbrev pub invariant-loop-k : goal.invariant-loop-k
invariant-loop-k l = put l.a l.out ≡ put_to l.xs l.ys l.flags l.from l.to l.k (put l.initial.a l.initial.out)
