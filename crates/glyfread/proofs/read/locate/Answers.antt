-- `glyfread::read::locate` meets its contract. Assumes nothing.
use Rattle.glyfread.proofs.Parts.{too_short, composite_at, cut_head, cut_code, headed_at}
use Rattle.glyfread.proofs.read.locate.Goals as goal

pub returns-then-bytes-lt2 : goal.returns-then-bytes-lt2
returns-then-bytes-lt2 c = too_short _ c.if-bytes-lt2.true

pub returns-then-contours-ge32768 : goal.returns-then-contours-ge32768
returns-then-contours-ge32768 c = composite_at _ c.if-bytes-lt2.false c.word_at.ensures c.wide-contours.ensures.value c.if-contours-ge32768.true

pub returns-then-bytes-tail : goal.returns-then-bytes-tail
returns-then-bytes-tail c = cut_head _ c.if-bytes-lt2.false c.word_at.ensures c.wide-contours.ensures.value c.if-contours-ge32768.false c.if-bytes-tail.true

pub returns-then-bytes-tail-2 : goal.returns-then-bytes-tail-2
returns-then-bytes-tail-2 c = cut_code _ c.if-bytes-lt2.false c.word_at.ensures c.wide-contours.ensures.value c.if-contours-ge32768.false c.if-bytes-tail.false c.word_at-2.ensures c.wide-size.ensures.value c.if-bytes-tail-2.true

pub locate_points-requires : goal.locate_points-requires
locate_points-requires c = headed_at _ c.if-bytes-lt2.false c.word_at.ensures c.wide-contours.ensures.value c.if-contours-ge32768.false c.if-bytes-tail.false c.word_at-2.ensures c.wide-size.ensures.value c.wide-size.ensures.upper_bound c.if-bytes-tail-2.false
