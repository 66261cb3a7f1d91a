use Rattle.std.proofs.Common.{to_z-of_z}
use Rattle.lines.proofs.Texts.{joined}
use Rattle.lines.proofs.Answers.{as_signed}
use Rattle.lines.proofs.answer.put_point.Goals as goal

pub returns : goal.returns
returns c =
    let fits = c.ranges in
    joined c.put_byte-a.ensures (joined (as_signed (to_z-of_z fits.x) c.put_signed-b.ensures) (joined c.put_byte-c.ensures (joined (as_signed (to_z-of_z fits.y) c.put_signed-d.ensures) (joined c.put_byte-e.ensures c.put_number.ensures))))
