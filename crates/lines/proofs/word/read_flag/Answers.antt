use Rattle.std.proofs.Common.{ℤ, Option, nat_abs, sym, ap, ◌∙◌, option_map}
use Rattle.lines.specs.Line.{flag_of, is_flag, only}
use Rattle.lines.specs.Steps.{flag_up_to}
use Rattle.lines.proofs.Reading.{empty, minus, plain, flag_below_zero, flag_from_zero}
use Rattle.lines.proofs.word.read_flag.Goals as goal

pub returns-then-word-eq0 : goal.returns-then-word-eq0
unfolding flag_of
returns-then-word-eq0 c = rw (empty _ c.if-word-eq0.true)

pub returns-then-word-eq45 : goal.returns-then-word-eq45
unfolding flag_of
returns-then-word-eq45 c =
    c.flag_up_to.ensures ∙ ap (flag_up_to 0) c.read_size.ensures ∙ flag_below_zero _
    ∙ sym (ap (λ (o : Option ℤ). option_map nat_abs (only is_flag o)) (minus _ c.if-word-eq0.false c.if-word-eq45.true))

pub returns-else-word-eq45 : goal.returns-else-word-eq45
unfolding flag_of
returns-else-word-eq45 c =
    c.flag_up_to-else-word-eq45.ensures ∙ ap (flag_up_to 255) c.read_size-else-word-eq45.ensures ∙ flag_from_zero _
    ∙ sym (ap (λ (o : Option ℤ). option_map nat_abs (only is_flag o)) (plain _ c.if-word-eq0.false c.if-word-eq45.false))
