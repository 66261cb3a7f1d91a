use Rattle.std.proofs.Common.{arith}
use Rattle.lines.proofs.Feeding.{inside, whole, part}
use Rattle.lines.proofs.stream.feed.Goals as goal

pub returns-then-e-chunk : goal.returns-then-e-chunk
returns-then-e-chunk c =
    record { room = (inside _ _ c.end_of-e.ensures.value c.put_all-kept.ensures, omega arith, omega arith); feeds = whole _ _ c.end_of-e.ensures.value c.put_all-kept.ensures c.if-e-chunk.true }

pub returns-else-e-chunk : goal.returns-else-e-chunk
returns-else-e-chunk c =
    record { room = inside _ _ c.end_of-e.ensures.value c.put_all-kept.ensures; feeds = part _ _ c.end_of-e.ensures.value c.put_all-kept.ensures c.if-e-chunk.false }
