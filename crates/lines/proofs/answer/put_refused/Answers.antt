use Rattle.lines.proofs.Texts.{joined}
use Rattle.lines.proofs.answer.put_refused.Goals as goal

pub returns : goal.returns
returns c =
    joined c.put_all-a.ensures c.put_number.ensures
