use Rattle.std.proofs.Common.{◌∙◌}
use Rattle.answering.proofs.Answers.{no_further}
use Rattle.answering.proofs.put_crunched.Goals as goal

pub returns-in-Some : goal.returns-in-Some
returns-in-Some c = c.in-Some.ensures

pub returns-in-None : goal.returns-in-None
returns-in-None c = no_further (rw c.in-None.ensures at c.put_long-end.ensures) (c.put_long-end.auto.text ∙ c.put_short.auto.text) c.min.ensures
