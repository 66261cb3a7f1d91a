-- `gliftext::table::action_of` meets its contract. Assumes nothing.
use Rattle.gliftext.specs.Actions.{actions, action_of}
use Rattle.gliftext.proofs.table.action_of.Goals as goal

pub returns : goal.returns
unfolding action_of actions
returns c = c.at.ensures
