-- `optimize::search_from_mark` meets its contract: the search ends as it would from the states before the mark. Assumes nothing.
use Rattle.optimize.proofs.Marking.{from_mark}
use Rattle.optimize.proofs.search_from_mark.Goals as goal

pub returns : goal.returns
returns c = λ st rep.
    let m = c.mark_search.ensures st rep in
    from_mark m (c.search_into.ensures m.now m.rep)
