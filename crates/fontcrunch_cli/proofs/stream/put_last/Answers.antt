use Rattle.fontcrunch_cli.proofs.Streaming.{none_last, one_last}
use Rattle.fontcrunch_cli.proofs.stream.put_last.Goals as goal

pub returns-then-used-eq0 : goal.returns-then-used-eq0
returns-then-used-eq0 c = none_last _ _ _ c.if-used-eq0.true

pub returns : goal.returns
returns c = one_last _ c.if-used-eq0.false c.requires c.put_answer.ensures
