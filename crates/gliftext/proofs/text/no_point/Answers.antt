-- `gliftext::text::no_point` meets its contract. Assumes nothing.
use Rattle.gliftext.proofs.text.no_point.Goals as goal

pub returns : goal.returns
returns c = cc
