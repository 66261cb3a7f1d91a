use Rattle.std.proofs.Common.{sym, ap, ◌∙◌}
use Rattle.lines.specs.Line.{coordinate_of, is_coordinate, only}
use Rattle.lines.specs.Steps.{below_zero, from_zero}
use Rattle.lines.proofs.Reading.{empty, minus, plain, below_zero_lem, from_zero_lem}
use Rattle.lines.proofs.word.read_coordinate.Goals as goal

pub returns-then-word-eq0 : goal.returns-then-word-eq0
unfolding coordinate_of
returns-then-word-eq0 c = rw (empty _ c.if-word-eq0.true)

pub returns-then-word-eq45 : goal.returns-then-word-eq45
unfolding coordinate_of
returns-then-word-eq45 c =
    c.below_zero.ensures ∙ ap below_zero c.read_size.ensures ∙ below_zero_lem _
    ∙ sym (ap (only is_coordinate) (minus _ c.if-word-eq0.false c.if-word-eq45.true))

pub returns-else-word-eq45 : goal.returns-else-word-eq45
unfolding coordinate_of
returns-else-word-eq45 c =
    c.from_zero.ensures ∙ ap from_zero c.read_size-else-word-eq45.ensures ∙ from_zero_lem _
    ∙ sym (ap (only is_coordinate) (plain _ c.if-word-eq0.false c.if-word-eq45.false))
