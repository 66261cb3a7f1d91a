-- `outline::count` meets its contract: as many flags pass the test as the definition counts. Assumes nothing.
use Rattle.std.proofs.Common.{◌≡◌, ◌∙◌, count_by, rules}
use Rattle.refusals.specs.Refusals.{is_on}
use Rattle.outline.proofs.Laws.{count_is}
use Rattle.outline.proofs.count.Goals as goal

pub returns : goal.returns
returns c =
    let counted : c.count.result ≡ count_by is_on c.args.flags.now = search rules in counted ∙ count_is _
