-- `glif::scan::turn` meets its contract. Assumes nothing.
use Rattle.glif.proofs.Passing.{turn_is}
use Rattle.glif.proofs.scan.turn.Goals as goal

pub shape_of-names : goal.shape_of-names
shape_of-names c = c.keep_name.auto.names

pub shape_of-points : goal.shape_of-points
shape_of-points c = c.keep_point.auto.points

pub returns : goal.returns
returns c = turn_is c.args.bytes.now _ _ _ _ c.class_of.ensures c.move_of-m.ensures c.action_of-action.ensures c.text_of-text.ensures c.wrong_names-wrong.ensures c.keep_name.ensures c.point_met.ensures c.keep_point.ensures c.tree_of.ensures c.sum_of.ensures
