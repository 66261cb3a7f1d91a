use Rattle.std.proofs.Common.{arith, sym, ◌∙◌}
use Rattle.lines.proofs.Parsing.{one_word, two_words, no_point, a_point}
use Rattle.lines.proofs.line.point_at.Goals as goal

pub returns-then-a-line-clause-at_value : goal.returns-then-a-line-clause-at_value
returns-then-a-line-clause-at_value c = one_word _ _ _ c.requires c.end_of-a.ensures.value c.if-a-line.true

pub returns-then-b-line-clause-at_value : goal.returns-then-b-line-clause-at_value
returns-then-b-line-clause-at_value c =
    two_words _ _ _ c.requires c.end_of-a.ensures.value _ (omega arith) c.end_of-b.ensures.value c.if-b-line.true

pub returns-in_err-p-clause-at_value : goal.returns-in_err-p-clause-at_value
returns-in_err-p-clause-at_value c =
    rw c.from_residual.ensures
    (no_point _ _ _ c.requires c.end_of-a.ensures.value _ (omega arith) c.end_of-b.ensures.value _ (omega arith) c.end_of-c.ensures.value (sym c.read_point.ensures ∙ c.in_err-p.was))

pub returns-clause-at_value : goal.returns-clause-at_value
returns-clause-at_value c =
    a_point _ _ _ c.requires c.end_of-a.ensures.value _ (omega arith) c.end_of-b.ensures.value _ (omega arith) c.end_of-c.ensures.value _ (sym c.read_point.ensures ∙ c.in_ok-p.was)
