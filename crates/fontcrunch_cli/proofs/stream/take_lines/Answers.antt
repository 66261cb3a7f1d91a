use Rattle.std.proofs.Common.{arith, subst}
use Rattle.lines.specs.Stream.{Room, Feeds}
use Rattle.fontcrunch_cli.proofs.Streaming.{begin, line_ended, part_kept}
use Rattle.fontcrunch_cli.proofs.stream.take_lines.Goals as goal

pub loop-i-init : goal.loop-i-init
loop-i-init c = (begin _ _ _ c.requires.keeps c.requires.first_in_bounds, omega arith)

pub returns-then-not-has_room : goal.returns-then-not-has_room
returns-then-not-has_room c =
    let lies = subst (Room _ _ _) c.in-Line.is c.feed.ensures.room in
    record {
      reaches = line_ended _ c.loop-i.invariant.0 (subst (Feeds _ _ _ _ _) c.in-Line.is c.feed.ensures.feeds) c.put_answer-at.ensures;
      onward = λ h. omega (arith, lies.1, c.loop-i.invariant.1);
    }

pub loop-i-preserved : goal.loop-i-preserved
loop-i-preserved c =
    let lies = subst (Room _ _ _) c.in-Line.is c.feed.ensures.room in
    (line_ended _ c.loop-i.invariant.0 (subst (Feeds _ _ _ _ _) c.in-Line.is c.feed.ensures.feeds) c.put_answer-at.ensures, omega (arith, lies.1, c.loop-i.invariant.1))

pub returns-in-Part : goal.returns-in-Part
returns-in-Part c = record {
  reaches = part_kept _ c.loop-i.invariant.0 (subst (Feeds _ _ _ _ _) c.in-Part.is c.feed.ensures.feeds);
  onward = λ h. h;
}

pub returns : goal.returns
returns c = record { reaches = c.loop-i.invariant.0; onward = λ h. omega arith }
