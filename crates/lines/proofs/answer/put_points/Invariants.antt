-- The loop's invariant: the points that are left, put from here, make the whole.
use Rattle.std.proofs.Common.{◌-◌}
use Rattle.lines.specs.Answer.{points_text}
use Rattle.lines.proofs.Texts.{Going}
use Rattle.lines.proofs.answer.put_points.Given as goal

abbrev pub invariant-loop-i : goal.invariant-loop-i
invariant-loop-i l = Going l.initial.out l.at (points_text l.xs l.ys l.flags l.n 0) l.out l.a (points_text l.xs l.ys l.flags (l.n - l.i) l.i)
