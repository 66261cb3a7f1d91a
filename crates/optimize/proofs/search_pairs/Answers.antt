-- `optimize::search_pairs` meets its contract. Assumes nothing.
use Rattle.optimize.specs.Laws.{search_pairs}
use Rattle.optimize.proofs.search_pairs.Goals as goal

pub returns : goal.returns
returns c = search_pairs _
