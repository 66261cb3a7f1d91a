use Rattle.lines.proofs.Texts.{joined}
use Rattle.lines.proofs.answer.put_ok.Goals as goal

pub returns : goal.returns
returns c =
    joined c.put_all-a.ensures (joined c.put_number-b.ensures c.put_points.ensures)
