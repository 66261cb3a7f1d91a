use Rattle.lines.proofs.Texts.{joined}
use Rattle.answering.proofs.put_answer.Goals.{then-is_brief, else-is_brief}
use Rattle.answering.proofs.put_answer.Goals as goal

pub returns : goal.returns
returns c =
    elim c.if-is_brief.branch [
      | then-is_brief w ↦ joined w.put_read-a.ensures (rw (w.text-is, w.a-is) at c.put_byte.ensures)
      | else-is_brief w ↦ joined w.put_read-a-else-is_brief.ensures (rw (w.text-is, w.a-is) at c.put_byte.ensures)
    ]
