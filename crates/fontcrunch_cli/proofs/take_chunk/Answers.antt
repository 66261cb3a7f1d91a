use Rattle.fontcrunch_cli.proofs.Streaming.{gone_more}
use Rattle.fontcrunch_cli.proofs.take_chunk.Goals as goal

pub loop-i-preserved : goal.loop-i-preserved
loop-i-preserved g c = gone_more _ c.loop-i.invariant c.take_lines-t.ensures.reaches
