-- `segments::segment_at` meets its contract. Assumes nothing.
use Rattle.breaks.proofs.Laws.{cut_31}
use Rattle.segments.proofs.Numbers.{past_row}
use Rattle.segments.proofs.segment_at.Goals as goal

pub returns-then-i-row : goal.returns-then-i-row
returns-then-i-row c = rw (c.min.ensures, c.to_index.ensures) (cut_31 _)

pub returns-else-i-row : goal.returns-else-i-row
returns-else-i-row c = past_row c.args.row.now _ c.if-i-row.false
