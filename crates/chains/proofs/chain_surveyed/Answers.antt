-- `chains::chain_surveyed` meets its contract. Assumes nothing.
use lib.ListN.{length}
use Rattle.pieces.specs.Slots.{chain}
use Rattle.edition.specs.Edition.{edition_of}
use Rattle.chains.specs.Chains.{chain_out}
use Rattle.chains.specs.Entry.{rows, room_in}
use Rattle.chains.proofs.Steps.{of_breaks}
use Rattle.chains.proofs.chain_surveyed.Goals as goal

pub edition-worked-requires : goal.edition-worked-requires
edition-worked-requires c = c.requires.0

pub name-requires : goal.name-requires
name-requires c = (c.requires.1, c.requires.2)

pub put_worked-requires : goal.put_worked-requires
put_worked-requires c = record { penalty = _; breaks = _; result = _; works = c.edition-worked.ensures }

pub returns : goal.returns
returns c =
    let lent = rows (chain c.args.starts.now c.args.ends.now c.args.cxs.now c.args.cys.now) c.args.spans.now in
    of_breaks (chain_out (room_in lent) (edition_of (length c.args.answers.now) (length c.args.links.now) c.args.samples.now c.args.breaks.now c.args.penalty)) lent
    (c.put_worked.ensures _ _ _ c.edition-worked.ensures) c.name.ensures
