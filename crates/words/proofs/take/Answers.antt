use Rattle.std.proofs.Common.{ap, ◌∙◌}
use Rattle.lines.specs.Line.{natural_of}
use Rattle.words.specs.Words.{sixteenths, taken}
use Rattle.words.proofs.Taking.{capped}
use Rattle.words.proofs.take.Goals as goal

pub returns-in-Has : goal.returns-in-Has
unfolding taken
returns-in-Has c = rw c.in-Has.is c.option_of.ensures

pub returns-in-Penalty : goal.returns-in-Penalty
unfolding taken
returns-in-Penalty c = rw c.in-Penalty.is (c.sixteenths.ensures ∙ ap (sixteenths _) c.read_size.ensures ∙ capped _ (natural_of c.args.word.now))
